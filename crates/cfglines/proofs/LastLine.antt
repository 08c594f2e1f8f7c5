-- What `rsplit_once` at a newline says about a text's last line.
use Rattle.std.proofs.Common.{◌≡◌, ℕ, ◌+◌, ◌-◌, ◌<◌, ◌≤◌, true, false, not, Some, None, List, length, drop, get_or, ap, ne_eqb, eq-eqb, get_or-drop, length-drop, ◌∙◌, arith}
use Rattle.std.proofs.lemmas.List.Sums.{suffix_len_is}
use Rattle.std.proofs.lemmas.Str.Pattern.{NoCharPasses-char}
use Rattle.std.specs.List.{after_last, suffix_len}
use Rattle.std.specs.Str.Pattern.{RFindsChar}
use Rattle.cfglines.specs.Lines.{is_newline}
use Rattle.cfglines.proofs.LineEnds.{is_other}

-- the last line begins at n, if there is no newline from n on, and n is right after one or at the text's start
after_last_is : (text : List ℕ) (n : ℕ) → n ≤ length text → ((k : ℕ) → n ≤ k → k < length text → is_newline (get_or text k 0) ≡ false)
    → (0 < n → is_newline (get_or text (n - 1) 0) ≡ true) → drop n text ≡ after_last is_newline text
after_last_is text n within none newline =
    let len : suffix_len is_other text ≡ length text - n =
    suffix_len_is is_other text n 0 within (λ k low high. ap not (none k low high)) (λ h. ap not (newline h)) in
    ap (λ i. drop i text) (omega arith)

pub after_last_none : (text : List ℕ) → RFindsChar 10 text None → text ≡ after_last is_newline text
after_last_none text none =
    after_last_is text 0 (omega arith) (λ k low high. ne_eqb _ _ (NoCharPasses-char 10 text k none (omega arith) high)) (λ h. absurd (omega arith))

pub after_last_some : (text : List ℕ) (i j : ℕ) → j ≤ length text → RFindsChar 10 text (Some (i, j)) → drop j text ≡ after_last is_newline text
after_last_some text i j within found =
    let ends : j ≡ i + 1 = found.1.ends in
    after_last_is text j within
    (λ k low high.
    let other = NoCharPasses-char 10 (drop j text) (k - j) found.0 (omega arith) (omega (arith, length-drop j text)) in
    let offset : get_or (drop j text) (k - j) 0 ≡ get_or text k 0 = get_or-drop j text (k - j) 0 ∙ ap (λ n. get_or text n 0) (omega arith) in
    ne_eqb _ _ (λ e. other (offset ∙ e)))
    (λ h. ap (λ n. is_newline (get_or text n 0)) (omega arith) ∙ eq-eqb _ _ (found.1.byte (omega arith)))
