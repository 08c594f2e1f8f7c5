-- The text up to a single colon is unique, and its rest is no longer than the text.
use Rattle.std.proofs.Common.{◌≡◌, ℕ, ◌≤◌, Bool, true, false, cond, List, [], ◌∷◌, ◌++◌, length, eqb, Result, Ok, Err, not, refl, sym, ap, subst, ◌∙◌, arith, length-append, eqb-true}
use Rattle.std.specs.Str.{trim}
use Rattle.std.proofs.lemmas.Bool.Decides.{nat_tests}
use Rattle.std.proofs.lemmas.List.{append-nil}
use Rattle.constructs.specs.Graph.{IsGraph}
use Rattle.constructs.specs.Pieces.{starts}
use Rattle.constructs.proofs.Lengths.{left_same}
use Rattle.cfgwords.specs.declared.fault.Fault.{Fault}
use Rattle.cfgwords.specs.declared.fault.FaultKind.TheVariants.{ReachedEOL}
use Rattle.cfgwords.specs.declared.passed.Passed.TheVariants.{BeforeColon}
use Rattle.cfgwords.specs.Passed.{passes_one, stops, passed}
use Rattle.cfgwords.specs.Text.{fault_at}
use Rattle.cfgwords.specs.ColonText.{is_colon, ColonText, single, missing, colon_parts, before_colon, colon_outcome, colon_text}
use Rattle.cfgwords.proofs.PassedLemmas.{stop_one, stop_two, IsStopped, passed_stopped, passed_only}

-- passing stops before a single colon
stop_single : (tail : List ℕ) → starts is_colon tail ≡ false → stops BeforeColon (58 ∷ tail) ≡ true
stop_single [] alone = refl
stop_single (c ∷ tail) alone = ap (λ t. eqb (cond t 2 0) 0) alone

-- and nowhere else
single_stop : (b : ℕ) (tail : List ℕ) → stops BeforeColon (b ∷ tail) ≡ true → (b ≡ 58) × (starts is_colon tail ≡ false)
single_stop b tail h = go (eqb b 58) refl
  where
    one : passes_one BeforeColon b ≡ false
    one = stop_one BeforeColon b tail h

    go : (t : Bool) → eqb b 58 ≡ t → (b ≡ 58) × (starts is_colon tail ≡ false)
    go true e = (eqb-true b 58 e, two tail h)
      where
        two : (tail : List ℕ) → stops BeforeColon (b ∷ tail) ≡ true → starts is_colon tail ≡ false
        two [] h = refl
        two (c ∷ tail) h = let t = stop_two BeforeColon b c tail h in grind (arith, nat_tests, t, e)
    go false e = let no : true ≡ false = ap not (sym e) ∙ one in cc

stopped_text : (len : ℕ) (text : List ℕ) (parts : List ℕ × List ℕ) → IsStopped BeforeColon text parts → ColonText len text (colon_outcome len (colon_parts parts))
stopped_text len text (inside, []) s = subst (λ x. ColonText len x (Err (fault_at len ReachedEOL []))) (sym (s.whole ∙ append-nil inside)) (missing s.passes)
stopped_text len text (inside, b ∷ tail) s =
    let colon = single_stop b tail s.ends in
    subst (λ b. ColonText len text (Ok (trim inside, b ∷ tail))) (sym colon.0) (single inside tail s.passes (s.whole ∙ ap (λ b. inside ++ b ∷ tail) colon.0) colon.1)

colon_sound : (len : ℕ) (text : List ℕ) → ColonText len text (colon_text len text)
unfolding colon_text before_colon
colon_sound len text = stopped_text len text (passed BeforeColon text) (passed_stopped BeforeColon text)

colon_only : (len : ℕ) (text : List ℕ) (r : Result (List ℕ × List ℕ) Fault) → ColonText len text r → colon_text len text ≡ r
unfolding colon_text before_colon
colon_only len text r (single inside tail passes whole alone) =
    ap (λ x. colon_outcome len (colon_parts (passed BeforeColon x))) whole
    ∙ ap (λ x. colon_outcome len (colon_parts x)) (passed_only BeforeColon inside (58 ∷ tail) passes (stop_single tail alone))
colon_only len text r (missing passes) =
    ap (λ x. colon_outcome len (colon_parts (passed BeforeColon x))) (sym (append-nil text))
    ∙ ap (λ x. colon_outcome len (colon_parts x)) (passed_only BeforeColon text [] passes refl)

pub colon_text_graph : (len : ℕ) → IsGraph (ColonText len) (colon_text len)
colon_text_graph len = record { sound = colon_sound len; only = colon_only len }

leaves : (len : ℕ) (text : List ℕ) (o : Result (List ℕ × List ℕ) Fault) → ColonText len text o
    → (word rest : List ℕ) → o ≡ Ok (word, rest) → length rest ≤ length text
leaves len text o (single inside tail passes whole alone) word rest e =
    omega (arith, ap length whole, length-append inside (58 ∷ tail), ap (λ (x : List ℕ × List ℕ). length x.1) (left_same e))
leaves len text o (missing passes) word rest e = cc

pub colon_text_no_longer : (len : ℕ) (text word rest : List ℕ) → colon_text len text ≡ Ok (word, rest) → length rest ≤ length text
colon_text_no_longer len text word rest e = leaves len text (colon_text len text) (colon_sound len text) word rest e
