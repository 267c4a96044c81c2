-- The parameters of requests; the names are this project's own.
use Rattle.std.specs.Prelude.{ℕ, List, ◌++◌, codes}
use Rattle.shop_model.specs.declared.parameter.Parameter.{Parameter}
use Rattle.shop_model.specs.declared.parameter.Parameter.TheVariants.{C, Cart, Item, Qty, Subject, Kind, Text, User, Pass, FirstName, LastName, Street1, Street2, City, State, Zip, Country, Phone, Email, Card, Number, Name, Expiry, Ship, Cost, Image, Thumb, Title, Author, Publisher, About, Srp, Stock, Pages, Backing}

abbrev pub parameter_name : Parameter → List ℕ
parameter_name C = codes "c"
parameter_name Cart = codes "cart"
parameter_name Item = codes "item"
parameter_name Qty = codes "qty"
parameter_name Subject = codes "subject"
parameter_name Kind = codes "kind"
parameter_name Text = codes "text"
parameter_name User = codes "user"
parameter_name Pass = codes "pass"
parameter_name FirstName = codes "fn"
parameter_name LastName = codes "ln"
parameter_name Street1 = codes "street1"
parameter_name Street2 = codes "street2"
parameter_name City = codes "city"
parameter_name State = codes "state"
parameter_name Zip = codes "zip"
parameter_name Country = codes "country"
parameter_name Phone = codes "phone"
parameter_name Email = codes "email"
parameter_name Card = codes "card"
parameter_name Number = codes "number"
parameter_name Name = codes "name"
parameter_name Expiry = codes "expiry"
parameter_name Ship = codes "ship"
parameter_name Cost = codes "cost"
parameter_name Image = codes "image"
parameter_name Thumb = codes "thumb"
parameter_name Title = codes "title"
parameter_name Author = codes "author"
parameter_name Publisher = codes "publisher"
parameter_name About = codes "about"
parameter_name Srp = codes "srp"
parameter_name Stock = codes "stock"
parameter_name Pages = codes "pages"
parameter_name Backing = codes "backing"

-- what refuses a parameter that is missing or not in its form
abbrev pub bad_parameter : Parameter → List ℕ
bad_parameter parameter = codes "Bad parameter " ++ parameter_name parameter ++ codes "."
