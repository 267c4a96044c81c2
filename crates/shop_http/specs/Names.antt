-- The parameters by their names, and their places among the values that are kept.
use Rattle.std.specs.Prelude.{ℕ, List, [], ◌∷◌, Option}
use Rattle.std.specs.List.{find}
use Rattle.std.specs.Str.{bytes_eq}
use Rattle.shop_model.specs.declared.parameter.Parameter.{Parameter}
use Rattle.shop_model.specs.declared.parameter.Parameter.TheVariants.{C, Cart, Item, Qty, Subject, Kind, Text, User, Pass, FirstName, LastName, Street1, Street2, City, State, Zip, Country, Phone, Email, Card, Number, Name, Expiry, Ship, Cost, Image, Thumb, Title, Author, Publisher, About, Srp, Stock, Pages, Backing}
use Rattle.shop_model.specs.asked.Parameters.{parameter_name}

-- all parameters
unfoldable pub parameters : List Parameter
parameters =
    C ∷ Cart ∷ Item ∷ Qty ∷ Subject ∷ Kind ∷ Text ∷ User ∷ Pass ∷ FirstName ∷ LastName ∷
    Street1 ∷ Street2 ∷ City ∷ State ∷ Zip ∷ Country ∷ Phone ∷ Email ∷
    Card ∷ Number ∷ Name ∷ Expiry ∷ Ship ∷ Cost ∷ Image ∷ Thumb ∷
    Title ∷ Author ∷ Publisher ∷ About ∷ Srp ∷ Stock ∷ Pages ∷ Backing ∷ []

-- the parameter with a name
unfoldable pub parameter_named : List ℕ → Option Parameter
parameter_named name = find (λ parameter. bytes_eq name (parameter_name parameter)) parameters

-- the place of each among all
abbrev pub place_of : Parameter → ℕ
place_of C = 0
place_of Cart = 1
place_of Item = 2
place_of Qty = 3
place_of Subject = 4
place_of Kind = 5
place_of Text = 6
place_of User = 7
place_of Pass = 8
place_of FirstName = 9
place_of LastName = 10
place_of Street1 = 11
place_of Street2 = 12
place_of City = 13
place_of State = 14
place_of Zip = 15
place_of Country = 16
place_of Phone = 17
place_of Email = 18
place_of Card = 19
place_of Number = 20
place_of Name = 21
place_of Expiry = 22
place_of Ship = 23
place_of Cost = 24
place_of Image = 25
place_of Thumb = 26
place_of Title = 27
place_of Author = 28
place_of Publisher = 29
place_of About = 30
place_of Srp = 31
place_of Stock = 32
place_of Pages = 33
place_of Backing = 34
