-- The command of lanes in words: what its options choose.
use Rattle.std.proofs.Common.{ℕ, refl, ap₂, List, ◌∷◌, codes, arith}
use Rattle.std.specs.List.{All}
use Rattle.clap.specs.Walk.{Text}
use Rattle.shop_words.specs.declared.command.Session.{Session}
use Rattle.shop_words.specs.declared.polled.Poll.{Poll}
use Rattle.shop_words.specs.Commands.{session_options}
use Rattle.shop_words.specs.Options.{IsWord}
use Rattle.shop_words.specs.Polled.{ChoosesPoll, IsPoll, IsPollable, poll_options}
use Rattle.shop_words.specs.Values.{connections_of, workers_of}
use Rattle.shop_words.proofs.Commands.{IsForm, IsKind, beside-form, given-words, more-form, name-from, word-from}
use Rattle.shop_words.proofs.Sessions.{session-form, within-plain}
use Rattle.shop_words.proofs.cited.Chosen.{connections_chosen, limit_chosen, workers_chosen}

-- ---- what options choose

poll-form : IsForm poll_options ChoosesPoll
poll-form =
    let connections = beside-form session-form (codes "connections") connections_of 1 (name-from (codes "connections") (omega arith) refl refl) (within-plain 1 1_000_000) in
    let lanes = beside-form connections (codes "lanes") workers_of 4 (name-from (codes "lanes") (omega arith) refl refl) (within-plain 1 16) in
    more-form
    (record {
      part = λ poll. ((poll.shop, poll.connections), poll.lanes);
      own = λ poll. poll.port;
      whole = λ one other rest port. ap₂ (λ (p : (Session × ℕ) × ℕ) (n : ℕ). record { shop = p.0.0; port = n; lanes = p.1; connections = p.0.1 }) rest port;
      apart = λ values poll chooses. (((chooses.shop, chooses.connections), chooses.lanes), chooses.port);
      joined = λ values poll rest port. record { shop = rest.0.0; port = port; lanes = rest.1; connections = rest.0.1 };
    })
    (codes "lanes" ∷ codes "connections" ∷ session_options) lanes (name-from (codes "port") (omega arith) refl refl) (within-plain 1 65_535)

-- ---- as the grammar has it

-- the words of the command are words
pub poll-words : (words : List Text) (poll : Poll) → IsPoll words poll → All IsWord words
poll-words words poll is = given-words (codes "poll") poll_options ChoosesPoll poll-form words (word-from (codes "poll") refl (λ e. cc)) poll is

pub poll-kind : IsKind IsPoll (codes "poll") poll_options ChoosesPoll (λ poll. poll)
poll-kind = record { form = poll-form; stands = λ words poll is. is; only = λ words other named is. record { chosen = other; is = refl; given = is } }

-- what it may ask for
pub pollable : (words : List Text) (poll : Poll) → IsPoll words poll → IsPollable poll
pollable words poll is =
    let lanes = workers_chosen 4 _ poll.lanes (omega arith) (omega arith) is.chooses.lanes in
    record { one = lanes.0; lanes = lanes.1; connections = connections_chosen _ poll.connections is.chooses.connections; limit = limit_chosen _ poll.shop is.chooses.shop }
