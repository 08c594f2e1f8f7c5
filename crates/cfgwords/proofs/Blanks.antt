-- A blank is read in one way, and each of its parts leaves a shorter rest.
use Rattle.std.proofs.Common.{◌≡◌, ℕ, zero, suc, ◌<◌, ◌≤◌, Bool, true, false, cond, List, [], length, Option, Some, None, Result, Ok, Err, not, ◌||◌, refl, ap, ◌∙◌, arith, length-append, length-drop}
use Rattle.std.specs.List.{list_any}
use Rattle.constructs.specs.Graph.{IsGraph}
use Rattle.constructs.specs.Turns.{again, after, turns, all_turns}
use Rattle.constructs.proofs.Lengths.{left_same}
use Rattle.constructs.proofs.Graphs.{Shrinks, turns_graph, turns_next}
use Rattle.cfgwords.specs.declared.fault.Fault.{Fault}
use Rattle.cfgwords.specs.declared.fault.FaultKind.{FaultKind}
use Rattle.cfgwords.specs.declared.fault.FaultKind.TheVariants.{ReachedEOL, IncompleteComment}
use Rattle.cfgwords.specs.declared.bytes.ByteClass.TheVariants as bytes
use Rattle.cfgwords.specs.Bytes.{holds}
use Rattle.cfgwords.specs.Text.{fault_at}
use Rattle.cfgwords.specs.Blank.{Prefix, Gap, LineComment, BlockComment, OpenComment, Bare, IsPrefix, part_of, turn_of, IsPart, Blank, prefix_of, blank_step, blank}
pub use Rattle.cfgwords.proofs.Prefixes.{prefix_graph}

-- a step of a blank is unique
pub blank_step_graph : (len : ℕ) (lines : Bool) → IsGraph (IsPart len lines) (blank_step len lines)
unfolding blank_step
blank_step_graph len lines = record {
  sound = λ text. record { prefix = prefix_of text; here = prefix_graph.sound text; turns_to = refl };
  only = λ text turn p. ap (λ prefix. turn_of len text (part_of lines prefix)) (prefix_graph.only text p.prefix p.here) ∙ p.turns_to;
}

-- what follows a part, whichever test let it pass
pub passed : (t : Bool) (kind : FaultKind) (mid rest : List ℕ) → cond t (Ok (Some mid)) (Err kind) ≡ Ok (Some rest) → mid ≡ rest
passed true kind mid rest e = cc
passed false kind mid rest e = cc

-- what follows a part is shorter
prefix_shorter : (lines : Bool) (text : List ℕ) (prefix : Prefix) → IsPrefix text prefix
    → (rest : List ℕ) → part_of lines prefix ≡ Ok (Some rest) → length rest < length text
prefix_shorter lines text (Gap b mid) (e, h) rest e' =
    let same = passed (lines || not (holds bytes.LineEnd b)) ReachedEOL mid rest e' in omega (arith, ap length e, ap length same)
prefix_shorter lines text (LineComment mid) (inside, line, tail, e, r, e'') rest e' =
    let same : mid ≡ rest = cc in
    omega (arith, ap length e, ap length r.whole, length-append line tail, length-drop 1 tail, ap length e'', ap length same)
prefix_shorter lines text (BlockComment body mid) (inside, e, f) rest e' =
    let same = passed (lines || not (list_any (holds bytes.LineEnd) body)) ReachedEOL mid rest e' in
    omega (arith, ap length e, simp length-append at (ap length f.whole), ap length same)
prefix_shorter lines text (OpenComment inside) (e, misses) rest e' = absurd (stops (lines || not (list_any (holds bytes.LineEnd) inside)) e')
  where
    stops : (t : Bool) → cond t (Err IncompleteComment) (Err ReachedEOL) ≡ Ok (Some rest) → ⊥
    stops true h = cc
    stops false h = cc
prefix_shorter lines text Bare h rest e' = cc

-- each part of a blank leaves a shorter rest
pub part_shorter : (lines : Bool) (text rest : List ℕ) → part_of lines (prefix_of text) ≡ Ok (Some rest) → length rest < length text
part_shorter lines text rest e = prefix_shorter lines text (prefix_of text) (prefix_graph.sound text) rest e

-- where a turn continues, there is a part
turn_again : (len : ℕ) (text rest : List ℕ) (complete : Result (Unit {0} × List ℕ) Fault → Result (Unit {0} × List ℕ) Fault)
    → (o : Result (Option (List ℕ)) FaultKind) → turn_of len text o ≡ again complete rest → o ≡ Ok (Some rest)
turn_again len text rest complete (Ok (Some mid)) e = let same : mid ≡ rest = cc in ap (λ x. Ok (Some x)) same
turn_again len text rest complete (Ok None) e = cc
turn_again len text rest complete (Err kind) e = cc

pub blank_step_shrinks : (len : ℕ) (lines : Bool) → Shrinks (blank_step len lines)
unfolding blank_step
blank_step_shrinks len lines = record {
  less = λ text rest complete e. part_shorter lines text rest (turn_again len text rest complete (part_of lines (prefix_of text)) e);
}

-- a blank is read in one way
pub blank_graph : (len : ℕ) (lines : Bool) → IsGraph (Blank len lines) (blank len lines)
unfolding blank
blank_graph len lines = turns_graph (blank_step_graph len lines) (blank_step_shrinks len lines) (Ok (tt, []))

-- one step of a blank, by how the text begins
blank_by_part : (len : ℕ) (lines : Bool) (text : List ℕ) (o : Result (Option (List ℕ)) FaultKind) → part_of lines (prefix_of text) ≡ o
    → blank len lines text ≡ after (blank len lines) (turn_of len text o)
unfolding blank blank_step
blank_by_part len lines text o e = turns_next (blank_step_shrinks len lines) (Ok (tt, [])) text
    ∙ ap (λ o. after (all_turns (blank_step len lines) (Ok (tt, []))) (turn_of len text o)) e

-- a blank continues after each of its parts,
pub blank_next : (len : ℕ) (lines : Bool) (text rest : List ℕ) → part_of lines (prefix_of text) ≡ Ok (Some rest)
    → blank len lines text ≡ blank len lines rest
blank_next len lines text rest e = blank_by_part len lines text (Ok (Some rest)) e

-- ends before anything else,
pub blank_ends : (len : ℕ) (lines : Bool) (text : List ℕ) → part_of lines (prefix_of text) ≡ Ok None → blank len lines text ≡ Ok (tt, text)
blank_ends len lines text e = blank_by_part len lines text (Ok None) e

-- and stops at a fault
pub blank_stops : (len : ℕ) (lines : Bool) (text : List ℕ) (kind : FaultKind) → part_of lines (prefix_of text) ≡ Err kind
    → blank len lines text ≡ Err (fault_at len kind text)
blank_stops len lines text kind e = blank_by_part len lines text (Err kind) e

-- after any number of steps
blank_less : (len : ℕ) (lines : Bool) (n : ℕ) (text rest : List ℕ) (u : Unit {0})
    → turns (blank_step len lines) (Ok (tt, [])) n text ≡ Ok (u, rest) → length rest ≤ length text
unfolding turns blank_step
blank_less len lines zero text rest u e = omega (arith, ap (λ (x : Unit {0} × List ℕ). length x.1) (left_same e))
blank_less len lines (suc n) text rest u e = go (λ mid. blank_less len lines n mid rest u) (part_of lines (prefix_of text)) refl e
  where
    go : ((mid : List ℕ) → turns (blank_step len lines) (Ok (tt, [])) n mid ≡ Ok (u, rest) → length rest ≤ length mid)
        → (o : Result (Option (List ℕ)) FaultKind) → part_of lines (prefix_of text) ≡ o
        → after (turns (blank_step len lines) (Ok (tt, [])) n) (turn_of len text o) ≡ Ok (u, rest) → length rest ≤ length text
    go ih (Ok (Some mid)) e1 e2 = omega (arith, part_shorter lines text mid e1, ih mid e2)
    go ih (Ok None) e1 e2 = omega (arith, ap (λ (x : Unit {0} × List ℕ). length x.1) (left_same e2))
    go ih (Err kind) e1 e2 = cc

-- a blank's rest is no longer than the text
pub blank_no_longer : (len : ℕ) (lines : Bool) (text : List ℕ) (u : Unit {0}) (rest : List ℕ) → blank len lines text ≡ Ok (u, rest) → length rest ≤ length text
unfolding blank
blank_no_longer len lines text u rest e = blank_less len lines (suc (length text)) text rest u e
