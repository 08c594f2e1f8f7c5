-- What is below a piece of a text is as wide as what shows the piece.
use Rattle.std.proofs.Common.{◌≡◌, ℕ, zero, suc, ◌+◌, ◌==◌, Bool, true, false, if◌then◌else◌, List, [], ◌∷◌, ◌++◌, codes, length, length-append, append-nil, append_assoc, add-one, sym, ap, ◌∙◌, refl, arith}
use Rattle.std.proofs.lemmas.Bool.{cond_both}
use Rattle.std.specs.List.{flat_map, repeat}
use Rattle.cfgrender.specs.Render.{under_prefix, under_span}
use Rattle.cfgrender.specs.Visible.{shown_as}
use Rattle.cfgrender.proofs.Shown.{shown_one, tab_itself}

pub under_tab : (c : ℕ) → (c == 9) ≡ true → codes "\t" ≡ under_prefix c
unfolding under_prefix
under_tab c tab = sym (ap (λ (tab : Bool). if tab then codes "\t" else repeat (length (shown_as c)) (codes " ")) tab)

pub under_other : (c n : ℕ) → (c == 9) ≡ false → n ≡ length (shown_as c) → repeat n (codes " ") ≡ under_prefix c
unfolding under_prefix
under_other c n other wide = ap (λ n. repeat n (codes " ")) wide
    ∙ sym (ap (λ (tab : Bool). if tab then codes "\t" else repeat (length (shown_as c)) (codes " ")) other)

pub under_shown : (c n : ℕ) → n ≡ length (shown_as c) → repeat n (codes "^") ≡ under_span c
unfolding under_span
under_shown c n wide = ap (λ n. repeat n (codes "^")) wide

repeat_turned : (n : ℕ) (text : List ℕ) → repeat n text ++ text ≡ text ++ repeat n text
repeat_turned zero text = sym (append-nil text)
repeat_turned (suc n) text = append_assoc text (repeat n text) text ∙ ap (λ rest. text ++ rest) (repeat_turned n text)

pub repeat_more : (n : ℕ) (text : List ℕ) → repeat n text ++ text ≡ repeat (n + 1) text
repeat_more n text = repeat_turned n text ∙ ap (λ n. repeat n text) (sym (add-one n))

repeat_wide : (n mark : ℕ) → length (repeat n (mark ∷ [])) ≡ n
repeat_wide zero mark = refl
repeat_wide (suc n) mark = let rest = repeat_wide n mark in omega arith

prefix_wide : (c : ℕ) → length (under_prefix c) ≡ length (shown_as c)
unfolding under_prefix
prefix_wide c = cond_both (c == 9) (codes "\t") (repeat (length (shown_as c)) (codes " ")) (λ under. length under ≡ length (shown_as c))
    (λ tab. sym (shown_one c (tab_itself c tab)))
    (λ _. repeat_wide (length (shown_as c)) 32)

span_wide : (c : ℕ) → length (under_span c) ≡ length (shown_as c)
unfolding under_span
span_wide c = repeat_wide (length (shown_as c)) 94

all_wide : (under : ℕ → List ℕ) → ((c : ℕ) → length (under c) ≡ length (shown_as c)) → (characters : List ℕ)
    → length (flat_map under characters) ≡ length (flat_map shown_as characters)
all_wide under each [] = refl
all_wide under each (c ∷ characters) =
    let here = each c in
    let rest = all_wide under each characters in
    omega (arith, length-append (under c) (flat_map under characters), length-append (shown_as c) (flat_map shown_as characters))

pub prefix_as_wide : (characters : List ℕ) → length (flat_map under_prefix characters) ≡ length (flat_map shown_as characters)
prefix_as_wide = all_wide under_prefix prefix_wide

pub span_as_wide : (characters : List ℕ) → length (flat_map under_span characters) ≡ length (flat_map shown_as characters)
span_as_wide = all_wide under_span span_wide
