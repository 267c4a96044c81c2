-- Commands of a journal in words: what their options choose.
use Rattle.std.proofs.Common.{◌≡◌, refl, List, ◌∷◌, codes, arith}
use Rattle.std.proofs.lemmas.Bool.{false≢true}
use Rattle.std.specs.List.{All}
use Rattle.clap.specs.Walk.{Text}
use Rattle.shop_words.specs.declared.kept.KeptCommand.{KeptCommand}
use Rattle.shop_words.specs.declared.kept.KeptCommand.TheVariants as kept
use Rattle.shop_words.specs.Kept.{ChoosesKeep, ChoosesMigrate, IsKeep, IsKeptCommand, IsMigrate, keep_options, migrate_options}
use Rattle.shop_words.specs.Options.{IsPlain, IsWord}
use Rattle.shop_words.specs.Values.{IsFileName}
use Rattle.shop_words.proofs.Commands.{IsForm, IsKind, Only, given-words, name-from, required-along, required-plain, required-same, rest-of, same-name, word-from}
use Rattle.shop_words.proofs.Sessions.{session-form}

-- ---- what options choose

file-plain : (text : Text) → IsFileName text → IsPlain text
file-plain text name = record { utf8 = name.utf8; no_hyphen = name.no_hyphen }

keep-form : IsForm keep_options ChoosesKeep
keep-form = record {
  known = (name-from (codes "journal") (omega arith) refl refl, session-form.known);
  along = λ values others same keep chooses. record {
    shop = session-form.along values others same keep.shop chooses.shop;
    journal = required-along IsFileName _ _ keep.journal (same (codes "journal")) chooses.journal;
  };
  same = λ values one other x y i. record {
    shop = session-form.same values one.shop other.shop x.shop y.shop i;
    journal = required-same IsFileName (values (codes "journal")) one.journal other.journal x.journal y.journal i;
  };
  plain = λ values keep chooses. (
    required-plain IsFileName values (codes "journal") keep.journal file-plain chooses.journal,
    session-form.plain values keep.shop chooses.shop,
  );
}

migrate-form : IsForm migrate_options ChoosesMigrate
migrate-form = record {
  known = (name-from (codes "from") (omega arith) refl refl, (name-from (codes "to") (omega arith) refl refl, tt));
  along = λ values others same migrate chooses. record {
    from = required-along IsFileName _ _ migrate.from (same (codes "from")) chooses.from;
    to = required-along IsFileName _ _ migrate.to (same (codes "to")) chooses.to;
  };
  same = λ values one other x y i. record {
    from = required-same IsFileName (values (codes "from")) one.from other.from x.from y.from i;
    to = required-same IsFileName (values (codes "to")) one.to other.to x.to y.to i;
  };
  plain = λ values migrate chooses. (
    required-plain IsFileName values (codes "from") migrate.from file-plain chooses.from,
    (required-plain IsFileName values (codes "to") migrate.to file-plain chooses.to, tt),
  );
}

-- ---- as the grammar has them

-- the words of a command are words
pub kept-words : (words : List Text) (command : KeptCommand) → IsKeptCommand words command → All IsWord words
kept-words words (kept.Keep keep) is = given-words (codes "keep") keep_options ChoosesKeep keep-form words (word-from (codes "keep") refl (λ e. cc)) keep is
kept-words words (kept.Migrate migrate) is =
    given-words (codes "migrate") migrate_options ChoosesMigrate migrate-form words (word-from (codes "migrate") refl (λ e. cc)) migrate is

only-keep : (words : List Text) (other : KeptCommand) → words ≡ codes "keep" ∷ rest-of words → IsKeptCommand words other → Only kept.Keep (IsKeep words) other
only-keep words (kept.Keep keep) named is = record { chosen = keep; is = refl; given = is }
only-keep words (kept.Migrate migrate) named is = absurd (false≢true (same-name (codes "keep") (codes "migrate") words _ is.rest named is.named))

only-migrate : (words : List Text) (other : KeptCommand) → words ≡ codes "migrate" ∷ rest-of words → IsKeptCommand words other → Only kept.Migrate (IsMigrate words) other
only-migrate words (kept.Migrate migrate) named is = record { chosen = migrate; is = refl; given = is }
only-migrate words (kept.Keep keep) named is = absurd (false≢true (same-name (codes "migrate") (codes "keep") words _ is.rest named is.named))

pub keep-kind : IsKind IsKeptCommand (codes "keep") keep_options ChoosesKeep kept.Keep
keep-kind = record { form = keep-form; stands = λ words keep is. is; only = only-keep }

pub migrate-kind : IsKind IsKeptCommand (codes "migrate") migrate_options ChoosesMigrate kept.Migrate
migrate-kind = record { form = migrate-form; stands = λ words migrate is. is; only = only-migrate }
