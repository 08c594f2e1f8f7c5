-- The string of `%epp` is unique, and its rest is no longer than the text.
use Rattle.std.proofs.Common.{◌≡◌, ℕ, ◌≤◌, Bool, true, false, cond, List, [], ◌∷◌, ◌++◌, length, eqb, Result, Ok, Err, refl, ap, ◌∙◌, arith, length-append, eqb-true, eq-eqb}
use Rattle.std.proofs.lemmas.Bool.Decides.{nat_tests}
use Rattle.constructs.specs.Graph.{IsGraph}
use Rattle.constructs.specs.Pieces.{starts}
use Rattle.constructs.proofs.Lengths.{left_same}
use Rattle.cfgwords.specs.declared.fault.Fault.{Fault}
use Rattle.cfgwords.specs.declared.fault.FaultKind.TheVariants.{InvalidString}
use Rattle.cfgwords.specs.declared.bytes.ByteClass.TheVariants as bytes
use Rattle.cfgwords.specs.declared.passed.Passed.TheVariants.{InString}
use Rattle.cfgwords.specs.Bytes.{holds}
use Rattle.cfgwords.specs.Passed.{stops, passed}
use Rattle.cfgwords.specs.Text.{fault_at}
use Rattle.cfgwords.specs.Strings.{EppString, closed, unopened, broken, closed_by, raw_string, string_value, epp_string}
use Rattle.cfgwords.proofs.PassedLemmas.{IsStopped, passed_stopped, passed_only}

-- a string stops before its closing quote
quote_stops : (quote : ℕ) (rest : List ℕ) → holds bytes.Quote quote ≡ true → stops (InString quote) (quote ∷ rest) ≡ true
quote_stops quote [] h = grind (arith, nat_tests)
quote_stops quote (c ∷ rest) h = grind (arith, nat_tests)

-- what follows the opening quote
opened_sound : (len quote : ℕ) (text : List ℕ) → holds bytes.Quote quote ≡ true → (parts : List ℕ × List ℕ) → IsStopped (InString quote) text parts
    → EppString len (quote ∷ text) (string_value len (closed_by quote parts))
opened_sound len quote text q (inside, []) s = broken quote inside [] q s.passes (ap (λ x. quote ∷ x) s.whole) refl refl
opened_sound len quote text q (inside, b ∷ rest) s = go (eqb b quote) refl
  where
    go : (t : Bool) → eqb b quote ≡ t → EppString len (quote ∷ text) (string_value len (cond t (Ok (inside, rest)) (Err (b ∷ rest))))
    go true e = closed quote inside rest q s.passes (ap (λ x. quote ∷ x) (s.whole ∙ ap (λ b. inside ++ b ∷ rest) (eqb-true b quote e)))
    go false e = broken quote inside (b ∷ rest) q s.passes (ap (λ x. quote ∷ x) s.whole) s.ends e

string_sound : (len : ℕ) (text : List ℕ) → EppString len text (epp_string len text)
unfolding epp_string raw_string
string_sound len [] = unopened refl
string_sound len (quote ∷ text) = go (holds bytes.Quote quote) refl
  where
    go : (t : Bool) → holds bytes.Quote quote ≡ t
        → EppString len (quote ∷ text) (string_value len (cond t (closed_by quote (passed (InString quote) text)) (Err (quote ∷ text))))
    go true q = opened_sound len quote text q (passed (InString quote) text) (passed_stopped (InString quote) text)
    go false q = unopened q

-- what is found after a quote
opened_is : (len quote : ℕ) (text : List ℕ) → holds bytes.Quote quote ≡ true
    → epp_string len (quote ∷ text) ≡ string_value len (closed_by quote (passed (InString quote) text))
unfolding epp_string raw_string
opened_is len quote text q = ap (λ t. string_value len (cond t (closed_by quote (passed (InString quote) text)) (Err (quote ∷ text)))) q

unopened_is : (len : ℕ) (text : List ℕ) → starts (holds bytes.Quote) text ≡ false → epp_string len text ≡ Err (fault_at len InvalidString text)
unfolding epp_string raw_string
unopened_is len [] h = refl
unopened_is len (quote ∷ text) h = ap (λ t. string_value len (cond t (closed_by quote (passed (InString quote) text)) (Err (quote ∷ text)))) h

-- without the closing quote, the string is broken
broken_is : (quote : ℕ) (inside left : List ℕ) → starts (λ b. eqb b quote) left ≡ false → closed_by quote (inside, left) ≡ Err left
broken_is quote inside [] h = refl
broken_is quote inside (b ∷ rest) h = ap (λ t. cond t (Ok (inside, rest)) (Err (b ∷ rest))) h

string_only : (len : ℕ) (text : List ℕ) (r : Result (List ℕ × List ℕ) Fault) → EppString len text r → epp_string len text ≡ r
string_only len text r (closed quote inside rest q passes whole) =
    ap (epp_string len) whole ∙ opened_is len quote (inside ++ quote ∷ rest) q
    ∙ ap (λ x. string_value len (closed_by quote x)) (passed_only (InString quote) inside (quote ∷ rest) passes (quote_stops quote rest q))
    ∙ ap (λ t. string_value len (cond t (Ok (inside, rest)) (Err (quote ∷ rest)))) (eq-eqb quote quote refl)
string_only len text r (unopened h) = unopened_is len text h
string_only len text r (broken quote inside left q passes whole ends other) =
    ap (epp_string len) whole ∙ opened_is len quote (inside ++ left) q
    ∙ ap (λ x. string_value len (closed_by quote x)) (passed_only (InString quote) inside left passes ends)
    ∙ ap (string_value len) (broken_is quote inside left other)

pub epp_string_graph : (len : ℕ) → IsGraph (EppString len) (epp_string len)
epp_string_graph len = record { sound = string_sound len; only = string_only len }

leaves : (len : ℕ) (text : List ℕ) (o : Result (List ℕ × List ℕ) Fault) → EppString len text o
    → (value rest : List ℕ) → o ≡ Ok (value, rest) → length rest ≤ length text
leaves len text o (closed quote inside left q passes whole) value rest e =
    omega (arith, ap length whole, length-append inside (quote ∷ left), ap (λ (x : List ℕ × List ℕ). length x.1) (left_same e))
leaves len text o (unopened h) value rest e = cc
leaves len text o (broken quote inside left q passes whole ends other) value rest e = cc

pub epp_string_no_longer : (len : ℕ) (text value rest : List ℕ) → epp_string len text ≡ Ok (value, rest) → length rest ≤ length text
epp_string_no_longer len text value rest e = leaves len text (epp_string len text) (string_sound len text) value rest e
