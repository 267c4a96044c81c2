-- The names of short lists of choices: each is read as its choice, is a text, and is short.
use Rattle.std.proofs.Common.{◌≡◌, ◌≤◌, ℕ, true, List, length, Option, Some, refl, arith}
use Rattle.std.specs.Char.{is_ascii}
use Rattle.std.specs.List.{list_all}
use Rattle.shop_model.specs.declared.backing.Backing.{Backing}
use Rattle.shop_model.specs.declared.backing.Backing.TheVariants as backing
use Rattle.shop_model.specs.declared.card_type.CardType.{CardType}
use Rattle.shop_model.specs.declared.card_type.CardType.TheVariants as card
use Rattle.shop_model.specs.declared.ship_type.ShipType.{ShipType}
use Rattle.shop_model.specs.declared.ship_type.ShipType.TheVariants as ship
use Rattle.shop_model.specs.declared.subject.Subject.{Subject}
use Rattle.shop_model.specs.declared.subject.Subject.TheVariants as subject
use Rattle.shop_model.specs.rows.Subjects.{backing_name, backing_of, backings, card_name, card_of, card_types, ship_name, ship_of, ship_types, subject_name, subject_of, subjects}

-- a name is read as its choice
pub record IsNamed {A : Type 0} (of : List ℕ → Option A) (name : List ℕ) (choice : A) : Type 0 where
  pub again : of name ≡ Some choice
  pub ascii : list_all is_ascii name ≡ true
  pub short : length name ≤ 15

pub card_named : (choice : CardType) → IsNamed card_of (card_name choice) choice
unfolding card_of card_types card_name
card_named card.Visa = record { again = refl; ascii = refl; short = omega arith }
card_named card.Mastercard = record { again = refl; ascii = refl; short = omega arith }
card_named card.Discover = record { again = refl; ascii = refl; short = omega arith }
card_named card.Amex = record { again = refl; ascii = refl; short = omega arith }
card_named card.Diners = record { again = refl; ascii = refl; short = omega arith }

pub ship_named : (choice : ShipType) → IsNamed ship_of (ship_name choice) choice
unfolding ship_of ship_types ship_name
ship_named ship.Air = record { again = refl; ascii = refl; short = omega arith }
ship_named ship.Ups = record { again = refl; ascii = refl; short = omega arith }
ship_named ship.Fedex = record { again = refl; ascii = refl; short = omega arith }
ship_named ship.Ship = record { again = refl; ascii = refl; short = omega arith }
ship_named ship.Courier = record { again = refl; ascii = refl; short = omega arith }
ship_named ship.Mail = record { again = refl; ascii = refl; short = omega arith }

pub backing_named : (choice : Backing) → IsNamed backing_of (backing_name choice) choice
unfolding backing_of backings backing_name
backing_named backing.Hardback = record { again = refl; ascii = refl; short = omega arith }
backing_named backing.Paperback = record { again = refl; ascii = refl; short = omega arith }
backing_named backing.Used = record { again = refl; ascii = refl; short = omega arith }
backing_named backing.Audio = record { again = refl; ascii = refl; short = omega arith }
backing_named backing.LimitedEdition = record { again = refl; ascii = refl; short = omega arith }

pub subject_named : (choice : Subject) → IsNamed subject_of (subject_name choice) choice
unfolding subject_of subjects subject_name
subject_named subject.Arts = record { again = refl; ascii = refl; short = omega arith }
subject_named subject.Biographies = record { again = refl; ascii = refl; short = omega arith }
subject_named subject.Business = record { again = refl; ascii = refl; short = omega arith }
subject_named subject.Children = record { again = refl; ascii = refl; short = omega arith }
subject_named subject.Computers = record { again = refl; ascii = refl; short = omega arith }
subject_named subject.Cooking = record { again = refl; ascii = refl; short = omega arith }
subject_named subject.Health = record { again = refl; ascii = refl; short = omega arith }
subject_named subject.History = record { again = refl; ascii = refl; short = omega arith }
subject_named subject.Home = record { again = refl; ascii = refl; short = omega arith }
subject_named subject.Humor = record { again = refl; ascii = refl; short = omega arith }
subject_named subject.Literature = record { again = refl; ascii = refl; short = omega arith }
subject_named subject.Mystery = record { again = refl; ascii = refl; short = omega arith }
subject_named subject.NonFiction = record { again = refl; ascii = refl; short = omega arith }
subject_named subject.Parenting = record { again = refl; ascii = refl; short = omega arith }
subject_named subject.Politics = record { again = refl; ascii = refl; short = omega arith }
subject_named subject.Reference = record { again = refl; ascii = refl; short = omega arith }
subject_named subject.Religion = record { again = refl; ascii = refl; short = omega arith }
subject_named subject.Romance = record { again = refl; ascii = refl; short = omega arith }
subject_named subject.SelfHelp = record { again = refl; ascii = refl; short = omega arith }
subject_named subject.ScienceNature = record { again = refl; ascii = refl; short = omega arith }
subject_named subject.ScienceFiction = record { again = refl; ascii = refl; short = omega arith }
subject_named subject.Sports = record { again = refl; ascii = refl; short = omega arith }
subject_named subject.Youth = record { again = refl; ascii = refl; short = omega arith }
subject_named subject.Travel = record { again = refl; ascii = refl; short = omega arith }
