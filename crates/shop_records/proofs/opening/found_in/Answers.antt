use Rattle.std.proofs.Common.{◌≡◌, ◌≤◌, ◌-◌, List, ℕ, length, take, drop, Bool, true, false, sym, ◌∙◌, ap, subst, arith, rules}
use Rattle.std.proofs.lemmas.List.{take-append-drop, length-take-le, take_rest}
use Rattle.shop_records.specs.Records.{header_length}
use Rattle.shop_records.specs.Scanning.{ScannedAs, IsNone}
use Rattle.shop_records.proofs.Finding.{is_kept, settled_read, none_read, is_open}
use Rattle.shop_records.proofs.opening.found_in.Goals as goal

-- what was scanned is all behind the header
behind : (bytes front rest : List ℕ) (is_shut b : Bool) → front ≡ bytes → is_shut ≡ b → ScannedAs (take (length front - 32) (drop 32 front)) rest is_shut → ScannedAs (drop header_length bytes) rest b
behind bytes front rest is_shut b same is scanned =
    let whole : take (length front - 32) (drop 32 front) ≡ drop header_length bytes = take_rest front 32 ∙ ap (drop 32) same in
    subst (λ (x : Bool). ScannedAs (drop header_length bytes) rest x) is (subst (λ (l : List ℕ). ScannedAs l rest is_shut) whole scanned)

pub returns-then-not-scanned-clause-found : goal.returns-then-not-scanned-clause-found
returns-then-not-scanned-clause-found g c =
    let bytes = c.args.bytes.items in
    let rest = c.scan-scanned.result.rest.now in
    let long : header_length ≤ length bytes = omega (arith, c.if-len-lt-HEADER.false, c.len.ensures, c.args.bytes.ok.0) in
    let scanned = behind bytes c.deref.result.now rest c.scan-scanned.result.is_shut false c.deref.ensures.value (search rules) c.scan-scanned.ensures in
    λ file is. subst (IsNone (c.len-2.result - length rest)) (c.requires.whole file is)
    (none_read (take header_length bytes) (drop header_length bytes) bytes rest (length-take-le header_length bytes long) (sym (take-append-drop header_length bytes)) scanned (c.len-2.result - length rest)
    (ap (λ (n : ℕ). n - length rest) (c.len-2.ensures ∙ c.args.bytes.ok.0)))

pub invariant_of-result : goal.invariant_of-result
invariant_of-result g c =
    let bytes = c.args.bytes.items in
    let rest = c.scan-scanned.result.rest.now in
    let long : header_length ≤ length bytes = omega (arith, c.if-len-lt-HEADER.false, c.len.ensures, c.args.bytes.ok.0) in
    let scanned = behind bytes c.deref.result.now rest c.scan-scanned.result.is_shut true c.deref.ensures.value (search rules) c.scan-scanned.ensures in
    settled_read (take header_length bytes) (drop header_length bytes) bytes rest (length-take-le header_length bytes long) (sym (take-append-drop header_length bytes))
    (g.D.Disk.state c.args.disk) c.requires.whole c.requires.durable scanned (c.len-2.result - length rest) (ap (λ (n : ℕ). n - length rest) (c.len-2.ensures ∙ c.args.bytes.ok.0))

pub invariant_of-result-2 : goal.invariant_of-result-2
invariant_of-result-2 g c =
    let bytes = c.args.bytes.items in
    let rest = c.scan-scanned.result.rest.now in
    let long : header_length ≤ length bytes = omega (arith, c.if-len-lt-HEADER.false, c.len.ensures, c.args.bytes.ok.0) in
    let scanned = behind bytes c.deref.result.now rest c.scan-scanned.result.is_shut true c.deref.ensures.value (search rules) c.scan-scanned.ensures in
    is_kept (take header_length bytes) (drop header_length bytes) bytes rest (length-take-le header_length bytes long) (sym (take-append-drop header_length bytes)) scanned

pub returns-clause-found : goal.returns-clause-found
returns-clause-found g c = is_open (g.D.Disk.state c.args.disk) c.args.bytes.items (g.D.Disk.is_disk c.args.disk) c.requires.whole c.requires.durable (invariant_of-result-2 g c)
