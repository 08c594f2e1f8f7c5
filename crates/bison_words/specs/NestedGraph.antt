-- What `nested` finds is what its pieces make of it, and nothing else is.
use Rattle.std.proofs.Common.{◌≡◌, ℕ, zero, suc, ◌<◌, ◌≤◌, List, length, Option, Some, None, Result, Ok, Err, refl, ap, ◌∙◌, arith}
use Rattle.constructs.specs.Graph.{IsGraph}
use Rattle.constructs.specs.Turns.{Turn, again, Turns, after, turns, all_turns}
use Rattle.constructs.specs.Construct.{computes}
use Rattle.constructs.proofs.Agree.{agree, leaves}
use Rattle.constructs.proofs.Graphs.{Shrinks, turns_graph, turns_next}
use Rattle.constructs.proofs.Lengths.{left_same}
use Rattle.bison_words.specs.declared.nesting.Nesting.{Nesting}
use Rattle.bison_words.specs.declared.nesting.Depth.{Depth}
use Rattle.bison_words.specs.Here.{Turn as Pieces}
use Rattle.bison_words.specs.Nested.{Found, Passage, after_piece, outermost, onward, step_outcome, step_of, found_of, IsStep, step, IsNested, nothing, passage, nested}

module _ (piece : Pieces Nesting) where
  -- one piece
  step_graph : IsGraph (IsStep piece) (λ text. step_of (computes piece text))
  step_graph = record { sound = λ text. step (computes piece text) ((agree piece).sound text); only = only }
    where
      only : (text : List ℕ) (t : Turn (Depth → Passage)) → IsStep piece text t → step_of (computes piece text) ≡ t
      only text t (step r there) = ap step_of ((agree piece).only text r there)

  -- each leaves a shorter rest
  step_rest : (text rest : List ℕ) (complete : (Depth → Passage) → Depth → Passage) (o : Result (Option Nesting × List ℕ) ⊥) → (computes piece text).outcome ≡ o
      → step_outcome (computes piece text).items o ≡ again complete rest → length rest < length text
  step_rest text rest complete (Ok (Some a, mid)) e1 e2 = let same : mid ≡ rest = cc in omega (arith, (leaves piece).least text (Some a) mid e1, ap length same)
  step_rest text rest complete (Ok (None, mid)) e1 e2 = cc
  step_rest text rest complete (Err fault) e1 e2 = absurd fault

  pub step_shrinks : Shrinks (λ text. step_of (computes piece text))
  step_shrinks = record { less = λ text rest complete e. step_rest text rest complete (computes piece text).outcome refl e }

  pub pieces_graph : IsGraph (Turns (IsStep piece)) (passage piece)
  unfolding passage
  pieces_graph = turns_graph step_graph step_shrinks nothing

  pub nested_graph : IsGraph (IsNested piece) (nested piece)
  nested_graph = record {
    sound = λ text. record { passes = passage piece text; pieces = pieces_graph.sound text; found = refl };
    only = λ text r is. ap (λ (f : Depth → Passage). found_of (f outermost)) (pieces_graph.only text is.passes is.pieces) ∙ is.found;
  }

  -- a passage is what its first piece makes of it
  pub passage_next : (text : List ℕ) (o : Result (Option Nesting × List ℕ) ⊥) → (computes piece text).outcome ≡ o
      → passage piece text ≡ after (passage piece) (step_outcome (computes piece text).items o)
  unfolding passage
  passage_next text o e = turns_next step_shrinks nothing text ∙ ap (λ o. after (all_turns (λ text. step_of (computes piece text)) nothing) (step_outcome (computes piece text).items o)) e

  -- its rest is no longer
  turns_less : (n : ℕ) (text : List ℕ) (depth : Depth) → length (turns (λ text. step_of (computes piece text)) nothing n text depth).rest ≤ length text
  unfolding turns
  turns_less zero text depth = omega arith
  turns_less (suc n) text depth = go (turns_less n) (computes piece text).outcome refl
    where
      go : ((rest : List ℕ) (depth : Depth) → length (turns (λ text. step_of (computes piece text)) nothing n rest depth).rest ≤ length rest)
          → (o : Result (Option Nesting × List ℕ) ⊥) → (computes piece text).outcome ≡ o
          → length (after (turns (λ text. step_of (computes piece text)) nothing n) (step_outcome (computes piece text).items o) depth).rest ≤ length text
      go ih (Ok (Some a, rest)) e = next (after_piece a depth)
        where
          shorter : length rest < length text
          shorter = omega (arith, (leaves piece).least text (Some a) rest e)

          next : (o : Option Depth) → length (onward (computes piece text).items rest (turns (λ text. step_of (computes piece text)) nothing n rest) o).rest ≤ length text
          next (Some depth) = omega (arith, shorter, ih rest depth)
          next None = omega (arith, shorter)
      go ih (Ok (None, rest)) e = omega (arith, (leaves piece).least text None rest e)
      go ih (Err fault) e = absurd fault

  pub passage_less : (text : List ℕ) (depth : Depth) → length (passage piece text depth).rest ≤ length text
  unfolding passage
  passage_less text depth = turns_less (suc (length text)) text depth

  pub nested_no_longer : (text : List ℕ) (found : Found) (rest : List ℕ) → nested piece text ≡ Ok (found, rest) → length rest ≤ length text
  nested_no_longer text found rest e = omega (arith, passage_less text outermost, ap (λ (x : Found × List ℕ). length x.1) (left_same e))
