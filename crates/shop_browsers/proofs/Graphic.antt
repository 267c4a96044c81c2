-- What a target is made of: texts of graphic bytes alone, and short.
use Rattle.std.proofs.Common.{◌≡◌, ℕ, zero, suc, ◌+◌, ◌*◌, ◌-◌, ◌%◌, ◌<◌, ◌≤◌, ◌==◌, ◌&&◌, ◌||◌, nat_lt, nat_le, Bool, true, false, List, [], ◌∷◌, ◌++◌, length, map, get_or, Option, Some, None, codes, decimal, arith, refl, length-append}
use Rattle.std.specs.List.{list_all, AllByRecursion}
use Rattle.std.proofs.lemmas.Bool.{cond_both, and_parts, leb-true, ltb-true}
use Rattle.std.proofs.lemmas.Bool.Decides.{nat_tests}
use Rattle.std.proofs.lemmas.List.{length-map}
use Rattle.shop_text.specs.Fold.{lower}
use Rattle.shop_text.specs.Syllables.{syllable, spelled, digsyl, digsyl_lower}
use Rattle.shop_text.proofs.cited.Plain.{syllable_cases}
use Rattle.shop_model.specs.declared.card_type.CardType.TheVariants.{Visa}
use Rattle.shop_model.specs.declared.page.Field.{Field}
use Rattle.shop_model.specs.declared.requests.Interaction.{Interaction}
use Rattle.shop_model.specs.declared.requests.Interaction.TheVariants.{NewProducts, BestSellers, ProductDetail, SearchResults, ShoppingCart, BuyRequest, BuyConfirm, OrderDisplay, AdminRequest, AdminConfirm}
use Rattle.shop_model.specs.declared.requests.SearchKind.{SearchKind}
use Rattle.shop_model.specs.declared.requests.SearchKind.TheVariants as kind
use Rattle.shop_model.specs.declared.subject.Subject.TheVariants.{Arts}
use Rattle.shop_model.specs.asked.Interactions.{path_of}
use Rattle.shop_model.specs.asked.Kinds.{kind_name}
use Rattle.shop_model.specs.pages.Forms.{text_field}
use Rattle.shop_model.specs.pages.Targets.{number_field, id_field, id_fields, pairs}
use Rattle.shop_model.specs.population.Words.{entry, nouns, first_names, last_names}
use Rattle.shop_model.specs.rows.Subjects.{subjects, subject_name, card_types, card_name}
use Rattle.shop_browsers.specs.Browsers.{BrowserState, word_at, meant}
use Rattle.shop_browsers.specs.Requests.{subject_drawn, item_drawn, item_field, kind_drawn, text_drawn, search_fields, customer_drawn, login_fields, newcomer_fields, buyer_fields, card_fields, change_fields, carried, parameters_of, target_of}
use Rattle.shop_browsers.proofs.Decimals.{none_decimal, decimal_short}
use Rattle.shop_browsers.proofs.Escaped.{none_of, none_tail, none_append}

-- a byte that is no graphic one of ASCII
abbrev pub is_hidden : ℕ → Bool
is_hidden byte = nat_le byte 32 || nat_le 127 byte

-- graphic bytes alone, so many at most
record IsPiece (most : ℕ) (bytes : List ℕ) : Type 0 where
  none : none_of is_hidden bytes ≡ true
  few : length bytes ≤ most

-- the same as a test
abbrev is_piece : ℕ → List ℕ → Bool
is_piece most bytes = none_of is_hidden bytes && nat_le (length bytes) most

piece : {most : ℕ} {bytes : List ℕ} → is_piece most bytes ≡ true → IsPiece most bytes
piece {most} {bytes} is =
    let parts = and_parts (none_of is_hidden bytes) (nat_le (length bytes) most) is in
    record { none = parts.0; few = leb-true (length bytes) most parts.1 }

both : {m n : ℕ} {xs ys : List ℕ} → IsPiece m xs → IsPiece n ys → IsPiece (m + n) (xs ++ ys)
both {m} {n} {xs} {ys} first second = record {
  none = none_append is_hidden xs ys first.none second.none;
  few = omega (arith, first.few, second.few, length-append xs ys);
}

wider : {m n : ℕ} {bytes : List ℕ} → m ≤ n → IsPiece m bytes → IsPiece n bytes
wider le is = record { none = is.none; few = omega (arith, is.few) }

number : (n : ℕ) → IsPiece 64 (decimal n)
number n = record { none = none_decimal is_hidden (λ d small. grind (arith, nat_tests)) n; few = decimal_short n }

spelled_piece : (digits : List ℕ) → IsPiece (2 * length digits) (spelled digits)
spelled_piece [] = record { none = refl; few = omega arith }
spelled_piece (digit ∷ digits) =
    let sound : IsPiece 2 (syllable (digit - 48)) = piece (syllable_cases (λ s. is_piece 2 s ≡ true) refl refl refl refl refl refl refl refl refl refl (digit - 48)) in
    wider (omega arith) (both sound (spelled_piece digits))

lower_seen : (byte : ℕ) → is_hidden byte ≡ false → is_hidden (lower byte) ≡ false
lower_seen byte seen = grind (arith, nat_tests)

none_lower : (bytes : List ℕ) → none_of is_hidden bytes ≡ true → none_of is_hidden (map lower bytes) ≡ true
none_lower [] none = refl
none_lower (byte ∷ bytes) none =
    let parts = none_tail (is_hidden byte) (none_of is_hidden bytes) none in
    rw (lower_seen byte parts.0) (none_lower bytes parts.1)

user : (id : ℕ) → IsPiece 128 (digsyl id)
user id = wider (omega (arith, decimal_short id)) (spelled_piece (decimal id))

password : (id : ℕ) → IsPiece 128 (digsyl_lower id)
password id = record { none = none_lower (digsyl id) (user id).none; few = omega (arith, (user id).few, length-map (digsyl id) lower) }

-- what passes is picked, where all does
at_place : {A : Type 0} (p : A → Bool) (none : A) (list : List A) → p none ≡ true → list_all p list ≡ true → (k : ℕ) → p (get_or list k none) ≡ true
at_place p none [] is all k = is
at_place p none (x ∷ xs) is all zero = (and_parts (p x) (list_all p xs) all).0
at_place p none (x ∷ xs) is all (suc k) = at_place p none xs is (and_parts (p x) (list_all p xs) all).1 k

noun_drawn : (w : ℕ) → IsPiece 128 (entry [] nouns w)
unfolding nouns
noun_drawn w = piece (at_place (is_piece 128) [] nouns refl refl (w % length nouns))

first_name_drawn : (w : ℕ) → IsPiece 128 (entry [] first_names w)
unfolding first_names
first_name_drawn w = piece (at_place (is_piece 128) [] first_names refl refl (w % length first_names))

last_name_drawn : (w : ℕ) → IsPiece 128 (entry [] last_names w)
unfolding last_names
last_name_drawn w = piece (at_place (is_piece 128) [] last_names refl refl (w % length last_names))

subject_piece : (b : BrowserState) → IsPiece 128 (subject_drawn b)
unfolding subjects subject_name
subject_piece b = piece (at_place (λ s. is_piece 128 (subject_name s)) Arts subjects refl refl (word_at b 2 % length subjects))

card_drawn : (w : ℕ) → IsPiece 128 (card_name (entry Visa card_types w))
unfolding card_types card_name
card_drawn w = piece (at_place (λ card. is_piece 128 (card_name card)) Visa card_types refl refl (w % length card_types))

kind_piece : (kind : SearchKind) → IsPiece 128 (kind_name kind)
kind_piece kind.Title = piece refl
kind_piece kind.Author = piece refl
kind_piece kind.Subject = piece refl

text_piece : (b : BrowserState) (kind : SearchKind) → IsPiece 128 (text_drawn b kind)
text_piece b kind.Title = noun_drawn (word_at b 2)
text_piece b kind.Author = last_name_drawn (word_at b 2)
text_piece b kind.Subject = subject_piece b

path_is : (interaction : Interaction) → (is_piece 32 (path_of interaction) && nat_lt 0 (length (path_of interaction))) ≡ true
path_is NewProducts = refl
path_is _ = refl

path_piece : (interaction : Interaction) → IsPiece 32 (path_of interaction)
path_piece interaction = piece (and_parts (is_piece 32 (path_of interaction)) (nat_lt 0 (length (path_of interaction))) (path_is interaction)).0

path_some : (interaction : Interaction) → 0 < length (path_of interaction)
path_some interaction = ltb-true 0 _ (and_parts (is_piece 32 (path_of interaction)) (nat_lt 0 (length (path_of interaction))) (path_is interaction)).1

-- a parameter of a target
record IsParameter (field : Field) : Type 0 where
  name : IsPiece 8 field.name
  value : IsPiece 128 field.value

-- parameters, so many at most
record AreParameters (most : ℕ) (fields : List Field) : Type 0 where
  each : AllByRecursion IsParameter fields
  few : length fields ≤ most

no_parameters : AreParameters 0 []
no_parameters = record { each = tt; few = omega arith }

one_more : {most : ℕ} {field : Field} {fields : List Field} → IsParameter field → AreParameters most fields → AreParameters (most + 1) (field ∷ fields)
one_more first others = record { each = (first, others.each); few = omega (arith, others.few) }

each_both : (fields others : List Field) → AllByRecursion IsParameter fields → AllByRecursion IsParameter others → AllByRecursion IsParameter (fields ++ others)
each_both [] others first second = second
each_both (field ∷ fields) others first second = (first.0, each_both fields others first.1 second)

groups : {m n : ℕ} {fields others : List Field} → AreParameters m fields → AreParameters n others → AreParameters (m + n) (fields ++ others)
groups {m} {n} {fields} {others} first second = record {
  each = each_both fields others first.each second.each;
  few = omega (arith, first.few, second.few, length-append fields others);
}

fewer : {m n : ℕ} {fields : List Field} → m ≤ n → AreParameters m fields → AreParameters n fields
fewer le are = record { each = are.each; few = omega (arith, are.few) }

pairs_piece : (sign : List ℕ) (fields : List Field) → IsPiece 1 sign → AllByRecursion IsParameter fields → IsPiece (138 * length fields) (pairs sign fields)
unfolding pairs
pairs_piece sign [] signed each = record { none = refl; few = omega arith }
pairs_piece sign (field ∷ fields) signed each =
    let equals : IsPiece 1 (codes "=") = piece refl in
    let front = both (both (both signed each.0.name) equals) each.0.value in
    wider (omega arith) (both front (pairs_piece (codes "&") fields (piece refl) each.1))

text : (name value : List ℕ) → is_piece 8 name ≡ true → IsPiece 128 value → IsParameter (text_field name value)
text name value named is = record { name = piece named; value = is }

fixed : (name value : List ℕ) → is_piece 8 name ≡ true → is_piece 128 value ≡ true → IsParameter (text_field name value)
fixed name value named is = text name value named (piece is)

counted : (name : List ℕ) (n : ℕ) → is_piece 8 name ≡ true → IsParameter (number_field name n)
counted name n named = text name (decimal n) named (wider (omega arith) (number n))

id_known : (name : List ℕ) (id : Option ℕ) → is_piece 8 name ≡ true → AreParameters 1 (id_field name id)
id_known name None named = record { each = tt; few = omega arith }
id_known name (Some n) named = one_more (counted name n named) no_parameters

ids : (b : BrowserState) → AreParameters 2 (carried b)
unfolding id_fields
ids b = groups (id_known (codes "c") b.customer refl) (id_known (codes "cart") b.cart refl)

item : (b : BrowserState) → IsParameter (item_field b)
item b = counted (codes "item") (item_drawn b) refl

subject : (b : BrowserState) → AreParameters 3 (text_field (codes "subject") (subject_drawn b) ∷ carried b)
subject b = one_more (text (codes "subject") _ refl (subject_piece b)) (ids b)

search_made : (b : BrowserState) → AreParameters 2 (search_fields b)
search_made b =
    one_more (text (codes "kind") _ refl (kind_piece (kind_drawn b)))
    (one_more (text (codes "text") _ refl (text_piece b (kind_drawn b))) no_parameters)

login : (b : BrowserState) → AreParameters 2 (login_fields b)
login b =
    one_more (text (codes "user") _ refl (user (customer_drawn b)))
    (one_more (text (codes "pass") _ refl (password (customer_drawn b))) no_parameters)

newcomer : (b : BrowserState) → AreParameters 8 (newcomer_fields b)
newcomer b =
    one_more (text (codes "fn") _ refl (first_name_drawn (word_at b 1)))
    (one_more (text (codes "ln") _ refl (last_name_drawn (word_at b 2)))
    (one_more (text (codes "street1") _ refl (noun_drawn (word_at b 1)))
    (one_more (text (codes "city") _ refl (last_name_drawn (word_at b 1)))
    (one_more (fixed (codes "zip") (codes "10000") refl refl)
    (one_more (counted (codes "country") (1 + word_at b 2 % 92) refl)
    (one_more (fixed (codes "phone") (codes "5550000000") refl refl)
    (one_more (fixed (codes "email") (codes "b@shop.example") refl refl) no_parameters)))))))

buyer : (b : BrowserState) → AreParameters 8 (buyer_fields b)
buyer b = cond_both (word_at b 3 % 5 == 0) _ _ (AreParameters 8) (λ _. newcomer b) (λ _. fewer (omega arith) (login b))

card : (b : BrowserState) → AreParameters 4 (card_fields b)
card b =
    one_more (text (codes "card") _ refl (card_drawn (word_at b 1)))
    (one_more (fixed (codes "number") (codes "4111222233334444") refl refl)
    (one_more (fixed (codes "name") (codes "B") refl refl)
    (one_more (fixed (codes "expiry") (codes "2030-12") refl refl) no_parameters)))

change : (b : BrowserState) → AreParameters 4 (change_fields b)
change b =
    one_more (item b)
    (one_more (counted (codes "cost") (100 + word_at b 2 % 9900) refl)
    (one_more (fixed (codes "image") (codes "/img/new.gif") refl refl)
    (one_more (fixed (codes "thumb") (codes "/img/newthumb.gif") refl refl) no_parameters)))

all_parameters : (b : BrowserState) (interaction : Interaction) → AreParameters 9 (parameters_of b interaction)
all_parameters b NewProducts = fewer (omega arith) (subject b)
all_parameters b BestSellers = fewer (omega arith) (subject b)
all_parameters b ProductDetail = fewer (omega arith) (one_more (item b) (ids b))
all_parameters b SearchResults = fewer (omega arith) (groups (search_made b) (ids b))
all_parameters b ShoppingCart = fewer (omega arith) (one_more (item b) (ids b))
all_parameters b BuyRequest = groups (id_known (codes "cart") b.cart refl) (buyer b)
all_parameters b BuyConfirm = fewer (omega arith) (groups (ids b) (card b))
all_parameters b OrderDisplay = fewer (omega arith) (groups (login b) (ids b))
all_parameters b AdminRequest = fewer (omega arith) (one_more (item b) (ids b))
all_parameters b AdminConfirm = fewer (omega arith) (groups (change b) (ids b))
all_parameters b _ = fewer (omega arith) (ids b)

-- some graphic bytes, and not many
pub record IsTarget (bytes : List ℕ) : Type 0 where
  pub none : none_of is_hidden bytes ≡ true
  pub some : 0 < length bytes
  pub few : length bytes ≤ 1274

pub target_is : (b : BrowserState) → IsTarget (target_of b)
target_is b =
    let path = path_of (meant b) in
    let all = pairs (codes "?") (parameters_of b (meant b)) in
    let are = all_parameters b (meant b) in
    let is = both (path_piece (meant b)) (pairs_piece (codes "?") (parameters_of b (meant b)) (piece refl) are.each) in
    record {
      none = is.none;
      some = omega (arith, path_some (meant b), length-append path all);
      few = omega (arith, is.few, are.few);
    }
