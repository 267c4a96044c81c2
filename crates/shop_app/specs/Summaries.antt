-- What a drive and a race print.
use Rattle.std.specs.Prelude.{ℕ, Bool, false, not, List, ◌++◌, length, map, count_by, codes, decimal}
use Rattle.std.specs.List.{concat, range_with_len}
use Rattle.shop_edges.specs.declared.gateway.Answer.{Answer}
use Rattle.shop_edges.specs.declared.gateway.Verdict.{Verdict}
use Rattle.shop_edges.specs.declared.gateway.Verdict.TheVariants.{Approved}
use Rattle.shop_model.specs.declared.tables.Tables.{Tables}
use Rattle.shop_history.specs.Logs.{entries_of}
use Rattle.shop_book.specs.Books.{BookValue, tables_of}
use Rattle.shop_book.specs.Summaries.{has_auth, summary_of}
use Rattle.shop_book.specs.declared.summary.Summary.{Summary}
use Rattle.shop_drive.specs.declared.tally.Tally.{Tally}

-- an approval whose authorisation no order has
abbrev pub is_unused : Tables → Verdict → Bool
is_unused t (Approved auth) = not (has_auth t auth)
is_unused t other = false

-- how many of the answers are such approvals
abbrev pub authorised_only : List Answer → Tables → ℕ
authorised_only answers t = count_by (λ a. is_unused t a.verdict) answers

-- a name and a number
abbrev pub line : List ℕ → ℕ → List ℕ
line name number = name ++ codes " " ++ decimal number ++ codes "\n"

-- what a log came to
abbrev pub log_lines : Summary → List ℕ
log_lines summary = line (codes "entries") summary.entries ++ line (codes "orders") summary.orders ++ line (codes "cents") summary.cents

-- how the requests went, what the log came to, and how many approvals no order has
abbrev pub summary_lines : Tally → Summary → ℕ → List ℕ
summary_lines tally summary unused =
    line (codes "requests") tally.requests
    ++ line (codes "pages") tally.pages
    ++ line (codes "refused") tally.refused
    ++ log_lines summary
    ++ line (codes "authorised only") unused

-- what is printed of requests that went so, whose charges were first answered so, over a shop with this book
abbrev pub drive_lines : Tally → List Answer → BookValue → List ℕ
drive_lines tally answers book = summary_lines tally (summary_of book) (authorised_only answers (tables_of book))

-- how many entries of a caller a book has
abbrev pub caller_line : BookValue → ℕ → List ℕ
caller_line book caller = line (codes "caller " ++ decimal caller) (length (entries_of caller book.log))

-- what is printed of so many callers over a shop with this book
abbrev pub race_lines : ℕ → BookValue → List ℕ
race_lines callers book = log_lines (summary_of book) ++ concat (map (caller_line book) (range_with_len 1 callers))
