-- Entries that may follow keep the tables sound, and each uses one of the room.
use Rattle.std.proofs.Common.{◌≡◌, ℕ, suc, sym, subst, ◌+◌, ◌-◌, ◌*◌, ◌%◌, ◌^◌, ◌<◌, ◌≤◌, List, [], ◌∷◌, length, take, All, Option, Some, None, IfSome, option_map, unwrap_or, refl, arith, length-append}
use Rattle.std.proofs.lemmas.List.{length-set}
use Rattle.std.proofs.lemmas.Nat.{mod_below}
use Rattle.std.proofs.lemmas.List.Elements.{All-weaker, All-push}
use Rattle.shop_log.proofs.cited.Extends.{extends_length, take_extends}
use Rattle.shop_log.proofs.cited.Legality as legality
use Rattle.shop_log.proofs.cited.Legality.{legal_front}
use Rattle.shop_model.specs.declared.address.Address.{Address}
use Rattle.shop_model.specs.declared.address.AddressText.{AddressText}
use Rattle.shop_model.specs.declared.author.Author.{Author}
use Rattle.shop_model.specs.declared.buying.Buyer.{Buyer}
use Rattle.shop_model.specs.declared.buying.Buyer.TheVariants.{Returning, Newcomer}
use Rattle.shop_model.specs.declared.tables.Tables.{Tables}
use Rattle.shop_model.specs.declared.refusal.Refusal.TheVariants.{NoItem}
use Rattle.shop_model.specs.asked.AddAsked.{AddAsked, IsAddAsked}
use Rattle.shop_model.specs.asked.AdminAsked.{AdminAsked, IsAdminAsked}
use Rattle.shop_model.specs.asked.CartAsked.{CartAsked}
use Rattle.shop_model.specs.trade.Buyers.{customer_named, logged_in, says_same, address_saying, addresses_with, new_customer, customers_with, tables_entered}
use Rattle.shop_model.specs.trade.Adding.{check_author, check_room, added_item, with_item}
use Rattle.shop_model.specs.trade.Carts.{first_of, check_cart, check_asked, lines_named, lines_after, cart_lines, carts_with}
use Rattle.shop_model.specs.asked.PurchaseAsked.{PurchaseAsked, IsPurchaseAsked}
use Rattle.shop_model.specs.trade.Sales.{Terms, check_purchase, tables_bought}
use Rattle.shop_model.specs.trade.Mending.{with_mended}
use Rattle.shop_model.specs.pages.Show.{check, check_there}
use Rattle.shop_model.specs.rows.Limits.{stamp_limit, restocks_limit}
use Rattle.shop_model.specs.rows.Lookups.{row_numbered}
use Rattle.shop_model.specs.rows.Rows.{CartRow, CustomerRow, ItemRow}
use Rattle.shop_model.specs.rows.Sound.{Sound, Room}
use Rattle.shop_history.specs.declared.acts.Act.{Act}
use Rattle.shop_history.specs.declared.acts.Act.TheVariants.{Cart, Enter, Confirm, Admin, Add}
use Rattle.shop_history.specs.declared.acts.Entry.{Entry}
use Rattle.shop_history.specs.Acts.{play, request_of, IsBuyer, IsInForm}
use Rattle.shop_history.specs.Logs.{history, after, tables, Legal, MayFollow, IsGood}
use Rattle.shop_history.proofs.Lines.{AreFit, none_fit, cart_lines_fit}
use Rattle.shop_history.proofs.cited.MayChange.{Buys, who_buys, named_there}
use Rattle.shop_history.proofs.cited.Places.{all_numbered}
use Rattle.shop_history.proofs.Changed.{changed_length}
use Rattle.shop_history.proofs.SoundCustomers.{login_sound, entered_sound, shared_sound, address_there}
use Rattle.shop_history.proofs.SoundPurchases.{purchase_sound, purchase_room}
use Rattle.shop_history.proofs.SoundAdding.{added_sound}
use Rattle.shop_history.proofs.SoundMending.{mended_sound, same_length, holds}
use Rattle.shop_history.proofs.SoundCarts.{AreSound, carts_sound, sound_with, push_sound, set_sound}

-- room for fewer entries
pub room_less : (t : Tables) (more less : ℕ) → less ≤ more → Room t more → Room t less
room_less t more less below room =
    let restocks : All (λ i. i.restocks + 49 * less ≤ restocks_limit) t.items
    = All-weaker (λ i. i.restocks + 49 * more ≤ restocks_limit) (λ i. i.restocks + 49 * less ≤ restocks_limit) (λ i h. omega arith) t.items room.restocks in
    grind arith

-- a cart more uses one of the room
room_with : (t : Tables) (carts : List CartRow) (room : ℕ) → length carts ≤ length t.carts + 1 → Room t (suc room) → Room (record t { carts = carts }) room
room_with t carts room one_more had = grind (arith, room_less t (suc room) room (omega arith) had)

-- the lines that a request begins with, and those that it leaves

begun_fit : (items : ℕ) (carts : List CartRow) (named : Option ℕ) → AreSound items carts → IfSome (lines_named carts named) (AreFit items)
begun_fit items carts None are = none_fit items
begun_fit items carts (Some id) are = there (row_numbered carts id) refl
  where
    there : (row : Option CartRow) → row_numbered carts id ≡ row → IfSome (option_map (λ c. c.lines) row) (AreFit items)
    there None is = tt
    there (Some cart) is = all_numbered (λ (c : CartRow). AreFit items c.lines) carts id cart is are.fit

left_fit : (items : ℕ) (asked : CartAsked) (draw : ℕ) (lines : Option (List (ℕ × ℕ))) → 0 < items → check_asked items asked lines ≡ None
    → IfSome lines (AreFit items) → AreFit items (cart_lines items asked draw (unwrap_or lines []))
left_fit items asked draw None some passes fit = absurd cc
left_fit items asked draw (Some lines) some passes fit = cart_lines_fit items asked draw lines some passes fit

pub lines_after_fit : (t : Tables) (asked : CartAsked) (draw : ℕ) → Sound t → check_cart t asked ≡ None → AreFit (length t.items) (lines_after t asked draw)
lines_after_fit t asked draw sound passes =
    left_fit (length t.items) asked draw (lines_named t.carts asked.ids.cart) (omega (arith, sound.six)) passes
    (begun_fit (length t.items) t.carts asked.ids.cart (carts_sound t sound))

-- the carts that it leaves

carts_with_sound : (items : ℕ) (carts : List CartRow) (asked : CartAsked) (named : Option ℕ) (lines : List (ℕ × ℕ)) → length carts + 1 < 2 ^ 32
    → check_asked items asked (lines_named carts named) ≡ None → AreFit items lines → AreSound items carts → AreSound items (carts_with carts named lines)
carts_with_sound items carts asked None lines fits passes fit are = push_sound items carts (record { id = length carts + 1; lines = lines }) refl fits fit are
carts_with_sound items carts asked (Some id) lines fits passes fit are =
    let was = named_there items asked (row_numbered carts id) passes in
    set_sound items carts was.0 (record { id = id; lines = lines }) was.1 fit are

carts_one_more : (carts : List CartRow) (named : Option ℕ) (lines : List (ℕ × ℕ)) → length (carts_with carts named lines) ≤ length carts + 1
carts_one_more carts None lines = omega (arith, length-append carts (record { id = length carts + 1; lines = lines } ∷ []))
carts_one_more carts (Some id) lines = omega (arith, length-set carts (id - 1) (record { id = id; lines = lines }))

-- a customer who logs in, or comes

login_good : (t : Tables) (stamp : ℕ) (customer : Option CustomerRow) (room : ℕ) → stamp ≤ stamp_limit → IsGood t (suc room)
    → IsGood (record t { customers = customers_with t.customers stamp customer }) room
login_good t stamp None room bound good = record { sound = good.sound; room_for = room_less t (suc room) room (omega arith) good.room_for }
login_good t stamp (Some customer) room bound good =
    let less : Room t room = room_less t (suc room) room (omega arith) good.room_for in
    let same = changed_length t.customers customer.id (logged_in stamp) in
    record {
      sound = login_sound t customer.id stamp bound good.sound;
      room_for = record {
        countries = less.countries;
        addresses = less.addresses;
        customers = omega (arith, same, less.customers);
        authors = less.authors;
        items = less.items;
        orders = less.orders;
        carts = less.carts;
        restocks = less.restocks;
      };
    }

addresses_one_more : (addresses : List Address) (text : AddressText) (same : Option Address) → length (addresses_with addresses text same) ≤ length addresses + 1
addresses_one_more addresses text None = omega (arith, length-append addresses (record { id = length addresses + 1; text = text } ∷ []))
addresses_one_more addresses text (Some same) = omega arith

enter_good : (t : Tables) (stamp draw : ℕ) (buyer : Buyer) (room : ℕ) → stamp ≤ stamp_limit → IsBuyer buyer → IsGood t (suc room)
    → IsGood (tables_entered t stamp draw buyer) room
enter_good t stamp draw (Returning asked) room bound form good = login_good t stamp (customer_named t asked.user) room bound good
enter_good t stamp draw (Newcomer asked) room bound form good =
    let same : Option Address = address_saying t asked.address in
    let with_address : Tables = record t { addresses = addresses_with t.addresses asked.address same } in
    let customer : CustomerRow = new_customer t stamp draw asked in
    let less : Room t room = room_less t (suc room) room (omega arith) good.room_for in
    let drawn : draw % 51 < 51 = mod_below draw 51 (omega arith) in
    let sound : Sound with_address = shared_sound t asked.address same (omega (arith, good.room_for.addresses)) form.address good.sound in
    record {
      sound =
          entered_sound with_address customer refl (omega (arith, good.room_for.customers)) refl
          (address_there (λ a. says_same a.text asked.address) t asked.address same good.sound refl)
          (record { discount = omega (arith, drawn); login = bound; expiry = omega (arith, bound) }) sound;
      room_for = record {
        countries = less.countries;
        addresses = omega (arith, addresses_one_more t.addresses asked.address same, good.room_for.addresses);
        customers = omega (arith, length-append t.customers (customer ∷ []), good.room_for.customers);
        authors = less.authors;
        items = less.items;
        orders = less.orders;
        carts = less.carts;
        restocks = less.restocks;
      };
    }

-- a customer who buys a cart

confirm_good : (t : Tables) (stamp draw : ℕ) (terms : Terms) (asked : PurchaseAsked) (room : ℕ) → stamp ≤ stamp_limit → IsPurchaseAsked asked → check_purchase t asked ≡ None → IsGood t (suc room)
    → IsGood (tables_bought t stamp draw terms asked (row_numbered t.customers asked.c)) room
confirm_good t stamp draw terms asked room bound form passes good =
    let who : Buys t asked = who_buys t asked passes in
    let addresses : length t.addresses + 1 < 2 ^ 32 = omega (arith, good.room_for.addresses) in
    let roomy : All (λ i. i.restocks + 49 ≤ restocks_limit) t.items
    = All-weaker (λ i. i.restocks + 49 * suc room ≤ restocks_limit) (λ i. i.restocks + 49 ≤ restocks_limit) (λ i h. omega arith) t.items good.room_for.restocks in
    subst (λ o. IsGood (tables_bought t stamp draw terms asked o) room) (sym who.buys)
    (record {
      sound = purchase_sound t good.sound asked form stamp draw terms bound who.customer who.cart who.buys who.bought who.some addresses (omega (arith, good.room_for.orders)) roomy;
      room_for = purchase_room t good.sound asked form stamp draw terms bound who.customer who.cart who.buys who.bought who.some addresses room good.room_for;
    })

-- an item that is administered

admin_good : (t : Tables) (stamp : ℕ) (asked : AdminAsked) (item : Option ItemRow) (room : ℕ) → stamp ≤ stamp_limit → IsAdminAsked asked → row_numbered t.items asked.item ≡ item → check_there NoItem item ≡ None
    → IsGood t (suc room) → IsGood (with_mended t stamp asked item) room
admin_good t stamp asked None room bound form there passes good = absurd cc
admin_good t stamp asked (Some item) room bound form there passes good =
    let less : Room t room = room_less t (suc room) room (omega arith) good.room_for in
    record {
      sound = mended_sound t good.sound stamp bound asked form item there;
      room_for = record {
        countries = less.countries;
        addresses = less.addresses;
        customers = less.customers;
        authors = less.authors;
        items = omega (arith, less.items, same_length t good.sound stamp bound asked form item there);
        orders = less.orders;
        carts = less.carts;
        restocks = holds t good.sound stamp bound asked form item there (λ i. i.restocks + 49 * room ≤ restocks_limit) (λ h. h) less.restocks;
      };
    }

-- an item that is added, whose author is there

add_good : (t : Tables) (stamp : ℕ) (asked : AddAsked) (author : Option Author) (room : ℕ) → stamp ≤ stamp_limit → IsAddAsked asked → row_numbered t.authors asked.author ≡ author
    → first_of (check_author author) (check_room (length t.items)) ≡ None → IsGood t (suc room) → IsGood (with_item t (added_item t stamp asked)) room
add_good t stamp asked None room bound form written passes good = absurd cc
add_good t stamp asked (Some author) room bound form written passes good =
    let less : Room t room = room_less t (suc room) room (omega arith) good.room_for in
    let fits : length t.items + 1 < 2 ^ 32 = omega (arith, good.room_for.items) in
    let item : ItemRow = added_item t stamp asked in
    record {
      sound = added_sound t good.sound fits stamp bound asked form author written;
      room_for = record {
        countries = less.countries;
        addresses = less.addresses;
        customers = less.customers;
        authors = less.authors;
        items = omega (arith, length-append t.items (item ∷ []), good.room_for.items);
        orders = less.orders;
        carts = less.carts;
        restocks = All-push (λ (i : ItemRow). i.restocks + 49 * room ≤ restocks_limit) t.items item less.restocks (omega (arith, good.room_for.items));
      };
    }

-- an act that is not refused
play_good : (t : Tables) (stamp : ℕ) (act : Act) (room : ℕ) → stamp ≤ stamp_limit → IsInForm act → check t (request_of act) ≡ None → IsGood t (suc room)
    → IsGood (play t stamp act).tables room
play_good t stamp (Enter asked draw) room bound form passes good = enter_good t stamp draw asked.buyer room bound form.1 good
play_good t stamp (Confirm asked draw auth tax) room bound form passes good = confirm_good t stamp draw (record { auth = auth; tax = tax }) asked room bound form passes good
play_good t stamp (Admin asked) room bound form passes good =
    admin_good t stamp asked (row_numbered t.items asked.item) room bound form refl passes good
play_good t stamp (Add asked) room bound form passes good = add_good t stamp asked (row_numbered t.authors asked.author) room bound form refl passes good
play_good t stamp (Cart asked draw) room bound form passes good =
    let lines : List (ℕ × ℕ) = lines_after t asked draw in
    let carts : List CartRow = carts_with t.carts asked.ids.cart lines in
    let are : AreSound (length t.items) carts
    = carts_with_sound (length t.items) t.carts asked asked.ids.cart lines (omega (arith, good.room_for.carts)) passes
    (lines_after_fit t asked draw good.sound passes) (carts_sound t good.sound) in
    record { sound = sound_with t carts are good.sound; room_for = room_with t carts room (carts_one_more t.carts asked.ids.cart lines) good.room_for }

pub good_after : (t : Tables) (entry : Entry) (room : ℕ) → entry.stamp ≤ stamp_limit → IsInForm entry.act → check t (request_of entry.act) ≡ None → IsGood t (suc room) → IsGood (after t entry) room
good_after t entry room bound form passes good = play_good t entry.stamp entry.act room bound form passes good

pub good_log : (t : Tables) (most : ℕ) → IsGood t most → (log : List Entry) → Legal t log → length log ≤ most → IsGood (tables t log) (most - length log)
unfolding history
good_log t most good =
    legality.good_after history (MayFollow t) IsGood t
    (λ log entry room follows before. good_after (tables t log) entry room follows.bound follows.form follows.passes before) most good

-- the tables are sound after every beginning of a legal log
pub sound_throughout : (t : Tables) (most : ℕ) → IsGood t most → (log : List Entry) → Legal t log → length log ≤ most → (count : ℕ) → Sound (tables t (take count log))
sound_throughout t most good log legal short count =
    let shorter : length (take count log) ≤ most = omega (arith, short, extends_length (take count log) log (take_extends log count)) in
    (good_log t most good (take count log) (legal_front (MayFollow t) log legal count) shorter).sound
