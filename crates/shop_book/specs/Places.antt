-- Where the version of a key stands: in which column, and where in it.
use Rattle.std.specs.Prelude.{ℕ, ◌+◌, Bool, nat_eq, not, List, [], ◌∷◌, length, take_while, count_by, Option, Some, None, bytes_eq}
use Rattle.std.specs.List.{list_any}
use Rattle.shop_model.specs.declared.subject.Subject.{Subject}
use Rattle.shop_model.specs.rows.Subjects.{subjects, subject_name}
use Rattle.shop_history.specs.declared.keys.Key as key
use Rattle.shop_history.specs.declared.keys.Key.{Key}
use Rattle.shop_book.specs.declared.puts.Put.{Put}
use Rattle.shop_book.specs.declared.puts.Put.TheVariants as put
use Rattle.shop_book.specs.declared.rows.Rows.{Rows}

-- the place of a subject in the list of subjects, counted from 1
unfoldable pub subject_id : Subject → ℕ
subject_id subject = length (take_while (λ other. not (bytes_eq (subject_name other) (subject_name subject))) subjects) + 1

-- the column of a key and its place there, counted from 1; none for a key that is a text, and for what is known of added items by the entries that added them
abbrev pub place_of : Key → Option (ℕ × ℕ)
place_of (key.TheVariants.Item id) = Some (0, id)
place_of (key.TheVariants.Label id) = None
place_of (key.TheVariants.Customer id) = Some (2, id)
place_of (key.TheVariants.Cart id) = Some (3, id)
place_of (key.TheVariants.NewIn subject) = Some (4, subject_id subject)
place_of (key.TheVariants.BestIn subject) = Some (5, subject_id subject)
place_of (key.TheVariants.Buyers item) = Some (6, item)
place_of (key.TheVariants.Bought customer) = Some (7, customer)
place_of (key.TheVariants.Name user) = None
place_of (key.TheVariants.Address id) = Some (8, id)
place_of (key.TheVariants.SameAddress text) = None
place_of (key.TheVariants.Country id) = Some (9, id)
place_of (key.TheVariants.Order id) = Some (10, id)
place_of (key.TheVariants.LastOrder customer) = Some (1, customer)
place_of key.TheVariants.Count = None
place_of (key.TheVariants.Added search) = None

-- how many places each column needs; that of countries, which never change, needs none
abbrev pub sizes : Rows → List ℕ
sizes rows =
    length rows.items.items ∷ length rows.customers.items ∷ length rows.customers.items ∷ length rows.carts.items ∷ 24 ∷ 24 ∷ length rows.items.items ∷ length rows.customers.items
    ∷ length rows.addresses.rows ∷ 0 ∷ length rows.orders.items ∷ []

-- the columns of the table that a write adds a row to, if it adds one
abbrev pub grown : Put → List ℕ
grown (put.Item item) = 0 ∷ 6 ∷ []
grown (put.Customer customer) = 1 ∷ 2 ∷ 7 ∷ []
grown (put.Cart cart) = 3 ∷ []
grown (put.Address address text) = 8 ∷ []
grown (put.Order order days) = 10 ∷ []
grown _ = []

abbrev pub grows : ℕ → Put → Bool
grows column put = list_any (nat_eq column) (grown put)

-- how many rows writes may add to the table of a column
abbrev pub growth : List Put → ℕ → ℕ
growth puts column = count_by (grows column) puts
