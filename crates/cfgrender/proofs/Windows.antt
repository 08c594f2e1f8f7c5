-- The window on a line: where it starts and ends.
use Rattle.std.proofs.Common.{◌≡◌, ℕ, ◌+◌, ◌-◌, ◌<◌, ◌≤◌, nat_le, List, length, take, drop, ⊎_elim, subst, refl, ◌∙◌, ap, sym, arith}
use Rattle.std.proofs.lemmas.Bool.{cases_lt, cond_both, le-leb, lt-leb}
use Rattle.std.proofs.lemmas.Str.{IsCharBoundary-start}
use Rattle.std.specs.Fmt.{take_chars}
use Rattle.std.specs.Str.{IsCharBoundary, IsUtf8}
use Rattle.cfgrender.specs.Render.{characters, skipped, window_end, window_start}
use Rattle.cfgrender.proofs.Cuts.{IsCut, boundary_begins, boundary_from_begins, cut_all, cut_first, cut_is, cut_more, cut_of_prefix, cut_whole, more_after}

skipped_none : (line : List ℕ) (start : ℕ) → characters line ≤ 160 → skipped line start ≡ 0
unfolding skipped
skipped_none line start few = rw (le-leb (characters line) 160 few) refl

skipped_some : (line : List ℕ) (start : ℕ) → 160 < characters line → skipped line start ≡ characters (take start line) - 40
unfolding skipped
skipped_some line start many = rw (lt-leb (characters line) 160 many) refl

-- the window on a line that is shown whole
pub starts_whole : (line : List ℕ) (start : ℕ) → IsUtf8 line → length (take_chars 160 line) ≡ length line → 0 ≡ window_start line start
unfolding window_start
starts_whole line start utf8 all =
    let none = skipped_none line start (cut_whole 160 line all) in
    let cut : IsCut 0 line 0 = record {
      within = omega arith;
      begins = λ less. boundary_begins line 0 (IsCharBoundary-start line utf8) less;
      count = omega arith;
    } in
    sym (ap (λ n. length (take_chars n line)) none ∙ cut_is 0 line 0 cut)

-- the window on a line that is cut
pub starts_before : (line : List ℕ) (start r : ℕ) → IsCharBoundary line start → (length (take_chars 160 line) ≡ length line → ⊥)
    → r ≡ length (take_chars (characters (take start line) - 40) (take start line)) → r ≡ window_start line start
unfolding window_start
starts_before line start r boundary differ is =
    let n = characters (take start line) - 40 in
    let many : 160 < characters line = ⊎_elim (λ more. more) (λ few. absurd (differ (cut_all 160 line few))) (cases_lt 160 (characters line)) in
    let inner : IsCut n (take start line) r = subst (IsCut n (take start line)) (sym is) (cut_first n (take start line)) in
    let cut = cut_of_prefix n line start r boundary (omega arith) inner in
    sym (ap (λ n. length (take_chars n line)) (skipped_some line start many) ∙ cut_is n line r cut)

pub window_start_boundary : (line : List ℕ) (start : ℕ) → IsCharBoundary line (window_start line start)
unfolding window_start
window_start_boundary line start =
    let cut = cut_first (skipped line start) line in
    boundary_from_begins line _ cut.within cut.begins

pub window_end_boundary : (line : List ℕ) (start : ℕ) → IsCharBoundary line (window_end line start)
unfolding window_end
window_end_boundary line start =
    let cut = cut_first (skipped line start + 160) line in
    boundary_from_begins line _ cut.within cut.begins

-- no more characters are skipped than come before the span
pub skipped-le : (line : List ℕ) (start : ℕ) → skipped line start ≤ characters (take start line)
unfolding skipped
skipped-le line start = cond_both (nat_le (characters line) 160) 0 (characters (take start line) - 40) (λ n. n ≤ characters (take start line)) (λ _. omega arith) (λ _. omega arith)

-- it starts no later than its span
pub window_before : (line : List ℕ) (start : ℕ) → IsCharBoundary line start → window_start line start ≤ start
unfolding window_start
window_before line start boundary = ⊎_elim
    (λ over.
    let cut = cut_first (skipped line start) line in
    let more = more_after line start _ over cut.within (boundary_begins line start boundary (omega (arith, cut.within))) in
    absurd (omega (arith, cut.count, skipped-le line start)))
    (λ fine. fine)
    (cases_lt start (length (take_chars (skipped line start) line)))

-- it ends so many characters after its start
pub ends_after : (line : List ℕ) (start first k : ℕ) → first ≡ window_start line start → k ≡ length (take_chars 160 (drop first line))
    → first + k ≡ window_end line start
unfolding window_start window_end
ends_after line start first k starts is =
    let begins : IsCut (skipped line start) line first = subst (IsCut (skipped line start) line) (sym starts) (cut_first (skipped line start) line) in
    let next : IsCut 160 (drop first line) k = subst (IsCut 160 (drop first line)) (sym is) (cut_first 160 (drop first line)) in
    sym (cut_is (skipped line start + 160) line (first + k) (cut_more (skipped line start) 160 line first k begins next))
