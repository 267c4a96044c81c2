-- How far a gateway that serves lines has come.
use Rattle.std.proofs.Common.{◌≡◌, ◌<◌, ℕ, inl, inr, List, [], ◌∷◌, ◌++◌, length, take, Option, append_assoc, append-nil, refl, sym, ap, ◌∙◌, subst}
use Rattle.std.specs.Io.KnownBytes.{Appends, IsAtEnd}
use Rattle.shop_edges.specs.Streams.{AppendsFront}
use Rattle.shop_edges.proofs.cited.Known.{Consumes-nothing, Consumes-more, Appends-nothing, Appends-more}
use Rattle.shop_gateway.specs.declared.served.Served.TheVariants as ends
use Rattle.shop_gateway.specs.Emulators.{EmulatorValue}
use Rattle.shop_gateway.specs.Lines.{IsLine, IsOpen, IsLong, EndsOpen, Gathers}
use Rattle.shop_gateway.specs.Protocol.{bad, ended, replies, after_line, after_lines}
use Rattle.shop_gateway.specs.Services.{Asks, Reads, Serves, Streams, reply, streams}
use Rattle.shop_gateway.proofs.LineLemmas.{lines-behind, lines-push}

after_lines-push : (old : EmulatorValue) (lines : List (List ℕ)) (line : List ℕ) → after_lines old (lines ++ line ∷ []) ≡ after_line (after_lines old lines) line
after_lines-push old [] line = refl
after_lines-push old (first ∷ lines) line = after_lines-push (after_line old first) lines line

replies-push : (old : EmulatorValue) (lines : List (List ℕ)) (line : List ℕ) → replies old (lines ++ line ∷ []) ≡ replies old lines ++ reply (after_lines old lines) line
replies-push old [] line = append-nil (reply old line)
replies-push old (first ∷ lines) line =
    ap (λ xs. reply old first ++ xs) (replies-push (after_line old first) lines line)
    ∙ sym (append_assoc (reply old first) (replies (after_line old first) lines) (reply (after_lines (after_line old first) lines) line))

-- the first lines of all the bytes were decided, and the replies to them were written
pub record Serving (old new : EmulatorValue) (at at' : Streams) (rest : List ℕ) : Type 0 where
  pub lines : List (List ℕ)
  pub reads : Reads at.left at'.left lines rest
  pub decided : new ≡ after_lines old lines
  pub written : Appends at.held at'.held (replies old lines)

pub serving-none : (old : EmulatorValue) (at : Streams) → Serving old old at at []
serving-none old at = record {
  lines = [];
  reads = record { given = []; taken = Consumes-nothing at.left; are = refl };
  decided = refl;
  written = Appends-nothing at.held;
}

module _ (old new : EmulatorValue) (at : Streams) (left held : Option (List ℕ)) (rest : List ℕ) (so_far : Serving old new at (streams left held) rest) where
  -- more bytes came
  pub serving-read : (left' : Option (List ℕ)) (rest' : List ℕ) → Gathers left left' rest rest' → Serving old new at (streams left' held) rest'
  serving-read left' rest' more = record {
    lines = so_far.lines;
    reads = record {
      given = so_far.reads.given ++ more.piece;
      taken = Consumes-more at.left left left' so_far.reads.given more.piece so_far.reads.taken more.taken;
      are = rw more.is (lines-behind so_far.reads.given so_far.lines rest more.piece so_far.reads.are);
    };
    decided = so_far.decided;
    written = so_far.written;
  }

  now : (held' : Option (List ℕ)) (bytes : List ℕ) → Appends held held' bytes → Appends at.held held' (replies old so_far.lines ++ bytes)
  now held' bytes more = Appends-more at.held held held' (replies old so_far.lines) bytes so_far.written more

  told : (line : List ℕ) → reply new line ≡ reply (after_lines old so_far.lines) line
  told line = ap (λ e. reply e line) so_far.decided

  decided_more : (new' : EmulatorValue) (line : List ℕ) → new' ≡ after_line new line → new' ≡ after_lines old (so_far.lines ++ line ∷ [])
  decided_more new' line is = is ∙ ap (λ e. after_line e line) so_far.decided ∙ sym (after_lines-push old so_far.lines line)

  reads_more : (line after : List ℕ) → IsLine rest line after → Reads at.left left (so_far.lines ++ line ∷ []) after
  reads_more line after is = record {
    given = so_far.reads.given;
    taken = so_far.reads.taken;
    are = lines-push so_far.reads.given so_far.lines rest line after so_far.reads.are is;
  }

  -- one line more
  pub serving-told : (new' : EmulatorValue) (held' : Option (List ℕ)) (line after : List ℕ) → IsLine rest line after → new' ≡ after_line new line → Appends held held' (reply new line)
      → Serving old new' at (streams left held') after
  serving-told new' held' line after first is written = record {
    lines = so_far.lines ++ line ∷ [];
    reads = reads_more line after first;
    decided = decided_more new' line is;
    written =
        subst (Appends at.held held') (ap (λ xs. replies old so_far.lines ++ xs) (told line) ∙ sym (replies-push old so_far.lines line))
        (now held' (reply new line) written);
  }

  -- ---- where it ends

  pub serves-closed : rest ≡ [] → IsAtEnd left → Serves old new at (streams left held) ends.Closed
  serves-closed none at_end = record { lines = so_far.lines; rest = rest; reads = so_far.reads; decided = so_far.decided; ends = (at_end, none, so_far.written) }

  pub serves-cut : EndsOpen left rest → 0 < length rest → Serves old new at (streams left held) ends.Cut
  serves-cut part some = record { lines = so_far.lines; rest = rest; reads = so_far.reads; decided = so_far.decided; ends = (part, some, so_far.written) }

  pub serves-failed : IsOpen rest → Serves old new at (streams left held) ends.ReadFault
  serves-failed part = record { lines = so_far.lines; rest = rest; reads = so_far.reads; decided = so_far.decided; ends = (part, so_far.written) }

  pub serves-memory : (new' : EmulatorValue) (held' : Option (List ℕ)) (line after : List ℕ) → IsLine rest line after → Asks line → new' ≡ new → Appends held held' []
      → Serves old new' at (streams left held') ends.Memory
  serves-memory new' held' line after first asks same nothing = record {
    lines = so_far.lines;
    rest = rest;
    reads = so_far.reads;
    decided = same ∙ so_far.decided;
    ends = (record { line = line; after = after; is = first; asks = asks }, subst (Appends at.held held') (append-nil (replies old so_far.lines)) (now held' [] nothing));
  }

  pub serves-long : (held' : Option (List ℕ)) → IsLong rest → Appends held held' (ended bad) → Serves old new at (streams left held') ends.TooLong
  serves-long held' long written = record {
    lines = so_far.lines;
    rest = rest;
    reads = so_far.reads;
    decided = so_far.decided;
    ends = (long, now held' (ended bad) written);
  }

  -- the reply to a line that is too long is cut
  pub serves-long-cut : (held' : Option (List ℕ)) → IsLong rest → AppendsFront held held' (ended bad) → Serves old new at (streams left held') ends.WriteFault
  serves-long-cut held' long front = record {
    lines = so_far.lines;
    rest = rest;
    reads = so_far.reads;
    decided = so_far.decided;
    ends = record {
      whole = so_far.lines;
      last = ended bad;
      count = front.count;
      within = front.within;
      written = now held' (take front.count (ended bad)) front.written;
      is = inr (refl, long, refl);
    };
  }

  -- the reply to a line is cut
  pub serves-cut-reply : (new' : EmulatorValue) (held' : Option (List ℕ)) (line after : List ℕ) → IsLine rest line after → new' ≡ after_line new line → AppendsFront held held' (reply new line)
      → Serves old new' at (streams left held') ends.WriteFault
  serves-cut-reply new' held' line after first is front = record {
    lines = so_far.lines ++ line ∷ [];
    rest = after;
    reads = reads_more line after first;
    decided = decided_more new' line is;
    ends = record {
      whole = so_far.lines;
      last = reply new line;
      count = front.count;
      within = front.within;
      written = now held' (take front.count (reply new line)) front.written;
      is = inl (line, refl, told line);
    };
  }
