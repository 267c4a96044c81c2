-- Commands in words: what their options choose.
use Rattle.std.proofs.Common.{◌≡◌, Bool, true, false, refl, sym, ap₂, subst, List, [], ◌∷◌, Some, None, Option, codes, arith, ℕ}
use Rattle.std.proofs.lemmas.Bool.{false≢true}
use Rattle.std.specs.List.{All}
use Rattle.std.specs.Prelude.{⊤}
use Rattle.std.specs.Str.{bytes_eq}
use Rattle.clap.specs.Walk.{Text}
use Rattle.shop_model.specs.population.Scales.{desk}
use Rattle.shop_browsers.specs.declared.mix.Mix.{Mix}
use Rattle.shop_browsers.specs.declared.mix.Mix.TheVariants.{Shopping}
use Rattle.shop_words.specs.declared.choices.Workload.{Workload}
use Rattle.shop_words.specs.declared.command.Command.{Command}
use Rattle.shop_words.specs.declared.command.Command.TheVariants as command
use Rattle.shop_words.specs.declared.command.Session.{Session}
use Rattle.shop_words.specs.Commands.{Chooses, ChoosesDrive, ChoosesRace, ChoosesServe, ChoosesWorkload, IsCommand, IsDrive, IsGateway, IsRace, IsServe, IsSession, drive_options, race_options, serve_options, session_options, workload_of_drive, workload_of_race, workload_options}
use Rattle.shop_words.specs.Options.{IsPlain, IsWord}
use Rattle.shop_text.specs.Numbers.{number_of}
use Rattle.shop_words.specs.Values.{connections_of, gateway_of, limit_of, mix_of, scale_of, within, workers_of}
use Rattle.shop_words.proofs.Commands.{Beside, IsForm, IsKind, Only, beside-form, more-form, chosen-along, chosen-plain, chosen-same, given-words, name-from, plain-from, rest-of, same-name, word-from}
use Rattle.shop_words.proofs.Numbers.{number-plain}
use Rattle.shop_words.proofs.Rules.{same-text}
use Rattle.shop_words.proofs.ScaleNames.{scale-plain}

-- ---- values in their forms are plain

some-within : (low high : ℕ) (number : Option ℕ) (n : ℕ) → within low high number ≡ Some n → (m : ℕ) × (number ≡ Some m)
some-within low high (Some m) n is = (m, refl)
some-within low high None n is = cc

pub within-plain : (low high : ℕ) (text : Text) (n : ℕ) → within low high (number_of text) ≡ Some n → IsPlain text
within-plain low high text n is = let number = some-within low high (number_of text) n is in number-plain text number.0 number.1

mix-plain : (text : Text) (mix : Mix) → mix_of text ≡ Some mix → IsPlain text
unfolding mix_of
mix-plain text mix is = go (bytes_eq text (codes "browsing")) (bytes_eq text (codes "shopping")) (bytes_eq text (codes "ordering")) refl refl refl
  where
    go : (browsing shopping ordering : Bool) → bytes_eq text (codes "browsing") ≡ browsing → bytes_eq text (codes "shopping") ≡ shopping
        → bytes_eq text (codes "ordering") ≡ ordering → IsPlain text
    go true shopping ordering b s o = subst IsPlain (sym (same-text text (codes "browsing") b)) (plain-from (codes "browsing") refl (λ e. omega (arith, e)))
    go false true ordering b s o = subst IsPlain (sym (same-text text (codes "shopping") s)) (plain-from (codes "shopping") refl (λ e. omega (arith, e)))
    go false false true b s o = subst IsPlain (sym (same-text text (codes "ordering") o)) (plain-from (codes "ordering") refl (λ e. omega (arith, e)))
    go false false false b s o = let none : None ≡ Some mix = rw (b, s, o) at is in cc

-- ---- what options choose

pub session-form : IsForm session_options Chooses
session-form = record {
  known = (name-from (codes "scale") (omega arith) refl refl, (name-from (codes "seed") (omega arith) refl refl, (name-from (codes "limit") (omega arith) refl refl, tt)));
  along = λ values others same chosen chooses. record {
    scale = chosen-along scale_of desk _ _ chosen.scale (same (codes "scale")) chooses.scale;
    seed = chosen-along number_of 0 _ _ chosen.seed (same (codes "seed")) chooses.seed;
    limit = chosen-along limit_of 1_000_000 _ _ chosen.limit (same (codes "limit")) chooses.limit;
  };
  same = λ values one other x y i. record {
    scale = chosen-same scale_of desk (values (codes "scale")) one.scale other.scale x.scale y.scale i;
    seed = chosen-same number_of 0 (values (codes "seed")) one.seed other.seed x.seed y.seed i;
    limit = chosen-same limit_of 1_000_000 (values (codes "limit")) one.limit other.limit x.limit y.limit i;
  };
  plain = λ values chosen chooses. (
    chosen-plain scale_of desk values (codes "scale") chosen.scale scale-plain chooses.scale,
    (
      chosen-plain number_of 0 values (codes "seed") chosen.seed number-plain chooses.seed,
      (chosen-plain limit_of 1_000_000 values (codes "limit") chosen.limit (within-plain 1 1_000_000) chooses.limit, tt),
    ),
  );
}

mixed-form : IsForm (codes "mix" ∷ session_options) (Beside Chooses (codes "mix") mix_of Shopping)
mixed-form = beside-form session-form (codes "mix") mix_of Shopping (name-from (codes "mix") (omega arith) refl refl) mix-plain

workload-form : IsForm workload_options ChoosesWorkload
workload-form =
    more-form
    (record {
      part = λ w. (w.shop, w.mix);
      own = λ w. w.steps;
      whole = λ one other rest steps. ap₂ (λ (p : Session × Mix) (steps : ℕ). record { shop = p.0; steps = steps; mix = p.1 }) rest steps;
      apart = λ values w chooses. ((chooses.shop, chooses.mix), chooses.steps);
      joined = λ values w rest steps. record { shop = rest.0; steps = steps; mix = rest.1 };
    })
    (codes "mix" ∷ session_options) mixed-form (name-from (codes "steps") (omega arith) refl refl) (within-plain 1 100_000)

pub drive-form : IsForm drive_options ChoosesDrive
drive-form =
    more-form
    (record {
      part = workload_of_drive;
      own = λ drive. drive.browsers;
      whole = λ one other rest browsers. ap₂ (λ (w : Workload) (n : ℕ). record { shop = w.shop; browsers = n; steps = w.steps; mix = w.mix }) rest browsers;
      apart = λ values drive chooses. (chooses.workload, chooses.browsers);
      joined = λ values drive rest browsers. record { workload = rest; browsers = browsers };
    })
    workload_options workload-form (name-from (codes "browsers") (omega arith) refl refl) (within-plain 1 64)

pub race-form : IsForm race_options ChoosesRace
race-form =
    more-form
    (record {
      part = workload_of_race;
      own = λ race. race.workers;
      whole = λ one other rest workers. ap₂ (λ (w : Workload) (n : ℕ). record { shop = w.shop; workers = n; steps = w.steps; mix = w.mix }) rest workers;
      apart = λ values race chooses. (chooses.workload, chooses.workers);
      joined = λ values race rest workers. record { workload = rest; workers = workers };
    })
    workload_options workload-form (name-from (codes "workers") (omega arith) refl refl) (within-plain 1 16)

pub serve-form : IsForm serve_options ChoosesServe
serve-form =
    let gateway = beside-form session-form (codes "gateway") gateway_of 0 (name-from (codes "gateway") (omega arith) refl refl) (within-plain 0 65_535) in
    let connections = beside-form gateway (codes "connections") connections_of 1 (name-from (codes "connections") (omega arith) refl refl) (within-plain 1 1_000_000) in
    let workers = beside-form connections (codes "workers") workers_of 4 (name-from (codes "workers") (omega arith) refl refl) (within-plain 1 16) in
    more-form
    (record {
      part = λ serve. (((serve.shop, serve.gateway), serve.connections), serve.workers);
      own = λ serve. serve.port;
      whole = λ one other rest port. ap₂
          (λ (p : ((Session × ℕ) × ℕ) × ℕ) (n : ℕ). record { shop = p.0.0.0; port = n; workers = p.1; connections = p.0.1; gateway = p.0.0.1 }) rest port;
      apart = λ values serve chooses. ((((chooses.shop, chooses.gateway), chooses.connections), chooses.workers), chooses.port);
      joined = λ values serve rest port. record { shop = rest.0.0.0; port = port; workers = rest.1; connections = rest.0.1; gateway = rest.0.0.1 };
    })
    (codes "workers" ∷ codes "connections" ∷ codes "gateway" ∷ session_options) workers (name-from (codes "port") (omega arith) refl refl) (within-plain 1 65_535)

gateway-form : IsForm [] (λ values (nothing : ⊤). ⊤)
gateway-form = record { known = tt; along = λ values others same chosen chooses. tt; same = λ values one other x y. refl; plain = λ values chosen chooses. tt }

-- ---- as the grammar has them

-- the words of a command are words
pub command-words : (words : List Text) (command : Command) → IsCommand words command → All IsWord words
command-words words (command.Session session) is =
    given-words (codes "session") session_options Chooses session-form words (word-from (codes "session") refl (λ e. cc)) session is
command-words words (command.Drive drive) is = given-words (codes "drive") drive_options ChoosesDrive drive-form words (word-from (codes "drive") refl (λ e. cc)) drive is
command-words words (command.Race race) is = given-words (codes "race") race_options ChoosesRace race-form words (word-from (codes "race") refl (λ e. cc)) race is
command-words words (command.Serve serve) is = given-words (codes "serve") serve_options ChoosesServe serve-form words (word-from (codes "serve") refl (λ e. cc)) serve is
command-words words command.Gateway is = given-words (codes "gateway") [] (λ values nothing. ⊤) gateway-form words (word-from (codes "gateway") refl (λ e. cc)) tt is

-- the word that a command begins with
abbrev name-of : Command → Text
name-of (command.Session session) = codes "session"
name-of (command.Drive drive) = codes "drive"
name-of (command.Race race) = codes "race"
name-of (command.Serve serve) = codes "serve"
name-of command.Gateway = codes "gateway"

-- words that begin with a name give a command with that name
named-so : (first : Text) (words : List Text) → words ≡ first ∷ rest-of words → (other : Command) → IsCommand words other → bytes_eq first (name-of other) ≡ true
named-so first words named (command.Session session) is = same-name first _ words _ is.rest named is.named
named-so first words named other is = same-name first _ words _ is.rest named is.named

only-session : (words : List Text) (other : Command) → words ≡ codes "session" ∷ rest-of words → IsCommand words other → Only command.Session (IsSession words) other
only-session words (command.Session session) named is = record { chosen = session; is = refl; given = is }
only-session words other named is = absurd (false≢true (named-so (codes "session") words named other is))

only-drive : (words : List Text) (other : Command) → words ≡ codes "drive" ∷ rest-of words → IsCommand words other → Only command.Drive (IsDrive words) other
only-drive words (command.Drive drive) named is = record { chosen = drive; is = refl; given = is }
only-drive words other named is = absurd (false≢true (named-so (codes "drive") words named other is))

only-race : (words : List Text) (other : Command) → words ≡ codes "race" ∷ rest-of words → IsCommand words other → Only command.Race (IsRace words) other
only-race words (command.Race race) named is = record { chosen = race; is = refl; given = is }
only-race words other named is = absurd (false≢true (named-so (codes "race") words named other is))

only-serve : (words : List Text) (other : Command) → words ≡ codes "serve" ∷ rest-of words → IsCommand words other → Only command.Serve (IsServe words) other
only-serve words (command.Serve serve) named is = record { chosen = serve; is = refl; given = is }
only-serve words other named is = absurd (false≢true (named-so (codes "serve") words named other is))

only-gateway : (words : List Text) (other : Command) → words ≡ codes "gateway" ∷ rest-of words → IsCommand words other → Only (λ nothing. command.Gateway) (IsGateway words) other
only-gateway words command.Gateway named is = record { chosen = tt; is = refl; given = is }
only-gateway words other named is = absurd (false≢true (named-so (codes "gateway") words named other is))

pub session-kind : IsKind IsCommand (codes "session") session_options Chooses command.Session
session-kind = record { form = session-form; stands = λ words session is. is; only = only-session }

pub drive-kind : IsKind IsCommand (codes "drive") drive_options ChoosesDrive command.Drive
drive-kind = record { form = drive-form; stands = λ words drive is. is; only = only-drive }

pub race-kind : IsKind IsCommand (codes "race") race_options ChoosesRace command.Race
race-kind = record { form = race-form; stands = λ words race is. is; only = only-race }

pub serve-kind : IsKind IsCommand (codes "serve") serve_options ChoosesServe command.Serve
serve-kind = record { form = serve-form; stands = λ words serve is. is; only = only-serve }

pub gateway-kind : IsKind IsCommand (codes "gateway") [] (λ values (nothing : ⊤). ⊤) (λ nothing. command.Gateway)
gateway-kind = record { form = gateway-form; stands = λ words nothing is. is; only = only-gateway }
