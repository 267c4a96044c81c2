-- The grammar of words, this project's own.
use Rattle.std.specs.Prelude.{◌≡◌, ⊤, List, [], ◌∷◌, ℕ, Option, Result, Ok, Err, codes}
use Rattle.shop_model.specs.population.Scales.{desk}
use Rattle.shop_browsers.specs.declared.mix.Mix.TheVariants.{Shopping}
use Rattle.shop_words.specs.Options.{Given, AreOptions, IsChosen, value_for}
use Rattle.shop_text.specs.Numbers.{number_of}
use Rattle.shop_words.specs.Values.{browsers_of, connections_of, gateway_of, limit_of, mix_of, port_of, scale_of, steps_of, workers_of}
use Rattle.shop_words.specs.declared.choices.Workload.{Workload}
use Rattle.shop_words.specs.declared.command.Session.{Session}
use Rattle.shop_words.specs.declared.command.Drive.{Drive}
use Rattle.shop_words.specs.declared.command.Race.{Race}
use Rattle.shop_words.specs.declared.command.Serve.{Serve}
use Rattle.shop_words.specs.declared.command.Command.{Command}
use Rattle.shop_words.specs.declared.command.Command.TheVariants as command
use Rattle.shop_words.specs.declared.command.Parsed.{Parsed}
use Rattle.shop_words.specs.declared.command.Parsed.TheVariants as parsed
use Rattle.shop_words.specs.declared.options.Refusal.{Refusal}
use Rattle.shop_words.specs.declared.options.Refusal.TheVariants as refusal

-- the words are a name, and behind it options with some of these names, whose values choose this
pub record IsGiven {A : Type 0} (first : List ℕ) (names : List (List ℕ)) (Choose : (List ℕ → Option (List ℕ)) → A → Type 0) (words : List (List ℕ)) (chosen : A) : Type 0 where
  pub rest : List (List ℕ)
  pub named : words ≡ first ∷ rest
  pub given : List Given
  pub options : AreOptions names rest given
  pub chooses : Choose (value_for given) chosen

-- ---- a session

abbrev pub session_options : List (List ℕ)
session_options = codes "scale" ∷ codes "seed" ∷ codes "limit" ∷ []

-- the session that option values choose: a scale, the desk's by default, a seed, 0 by default, and how many changes its
-- log may hold, 1,000,000 by default
pub record Chooses (values : List ℕ → Option (List ℕ)) (session : Session) : Type 0 where
  pub scale : IsChosen scale_of desk (values (codes "scale")) session.scale
  pub seed : IsChosen number_of 0 (values (codes "seed")) session.seed
  pub limit : IsChosen limit_of 1_000_000 (values (codes "limit")) session.limit

-- `session` and its options
abbrev pub IsSession : List (List ℕ) → Session → Type 0
IsSession = IsGiven (codes "session") session_options Chooses

-- ---- a drive and a race

abbrev pub workload_options : List (List ℕ)
workload_options = codes "steps" ∷ codes "mix" ∷ session_options

-- the workload that option values choose: its shop, how many steps, 100 by default, and the mix of what is asked for,
-- Shopping by default
pub record ChoosesWorkload (values : List ℕ → Option (List ℕ)) (workload : Workload) : Type 0 where
  pub shop : Chooses values workload.shop
  pub steps : IsChosen steps_of 100 (values (codes "steps")) workload.steps
  pub mix : IsChosen mix_of Shopping (values (codes "mix")) workload.mix

abbrev pub drive_options : List (List ℕ)
drive_options = codes "browsers" ∷ workload_options

abbrev pub workload_of_drive : Drive → Workload
workload_of_drive drive = record { shop = drive.shop; steps = drive.steps; mix = drive.mix }

-- the drive that option values choose: its workload, and how many browsers, 1 by default
pub record ChoosesDrive (values : List ℕ → Option (List ℕ)) (drive : Drive) : Type 0 where
  pub workload : ChoosesWorkload values (workload_of_drive drive)
  pub browsers : IsChosen browsers_of 1 (values (codes "browsers")) drive.browsers

-- `drive` and its options
abbrev pub IsDrive : List (List ℕ) → Drive → Type 0
IsDrive = IsGiven (codes "drive") drive_options ChoosesDrive

abbrev pub race_options : List (List ℕ)
race_options = codes "workers" ∷ workload_options

abbrev pub workload_of_race : Race → Workload
workload_of_race race = record { shop = race.shop; steps = race.steps; mix = race.mix }

-- the race that option values choose: its workload, and how many workers, 2 by default
pub record ChoosesRace (values : List ℕ → Option (List ℕ)) (race : Race) : Type 0 where
  pub workload : ChoosesWorkload values (workload_of_race race)
  pub workers : IsChosen workers_of 2 (values (codes "workers")) race.workers

-- `race` and its options
abbrev pub IsRace : List (List ℕ) → Race → Type 0
IsRace = IsGiven (codes "race") race_options ChoosesRace

-- ---- serving a port

abbrev pub serve_options : List (List ℕ)
serve_options = codes "port" ∷ codes "workers" ∷ codes "connections" ∷ codes "gateway" ∷ session_options

-- the port that option values choose, 8080 by default
abbrev pub ChoosesPort : (List ℕ → Option (List ℕ)) → ℕ → Type 0
ChoosesPort values = IsChosen port_of 8080 (values (codes "port"))

-- how many connections they choose, 1 by default
abbrev pub ChoosesConnections : (List ℕ → Option (List ℕ)) → ℕ → Type 0
ChoosesConnections values = IsChosen connections_of 1 (values (codes "connections"))

-- the shop that option values choose, the port, how many workers, 4 by default, how many connections, and the gateway's
-- port, 0 by default
pub record ChoosesServe (values : List ℕ → Option (List ℕ)) (serve : Serve) : Type 0 where
  pub shop : Chooses values serve.shop
  pub port : ChoosesPort values serve.port
  pub workers : IsChosen workers_of 4 (values (codes "workers")) serve.workers
  pub connections : ChoosesConnections values serve.connections
  pub gateway : IsChosen gateway_of 0 (values (codes "gateway")) serve.gateway

-- `serve` and its options
abbrev pub IsServe : List (List ℕ) → Serve → Type 0
IsServe = IsGiven (codes "serve") serve_options ChoosesServe

-- ---- a gateway

-- `gateway`, and no options
abbrev pub IsGateway : List (List ℕ) → ⊤ → Type 0
IsGateway = IsGiven (codes "gateway") [] (λ values nothing. ⊤)

-- ---- what words give

-- the words give the command
abbrev pub IsCommand : List (List ℕ) → Command → Type 0
IsCommand words (command.Session session) = IsSession words session
IsCommand words (command.Drive drive) = IsDrive words drive
IsCommand words (command.Race race) = IsRace words race
IsCommand words (command.Serve serve) = IsServe words serve
IsCommand words command.Gateway = IsGateway words tt

-- what holds of what the words ask for, where they are good
abbrev pub IfGood : {T : Type 0} → Parsed T → (T → Type 0) → Type 0
IfGood (parsed.Good asked) P = P asked
IfGood parsed.Bad P = ⊤
IfGood parsed.Memory P = ⊤

-- what reading words came to: the one thing that they give, or bad words, which give nothing
abbrev pub IsRead : {T : Type 0} → (T → Type 0) → Result T Refusal → Type 0
IsRead {T} Is (Ok asked) = Is asked × ((other : T) → Is other → other ≡ asked)
IsRead {T} Is (Err refusal.Bad) = (asked : T) → ¬ (Is asked)
IsRead Is (Err refusal.Memory) = ⊤
