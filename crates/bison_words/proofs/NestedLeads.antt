-- What reading up to a closing bracket leads to.
use Rattle.std.proofs.Common.{ℕ, List, Option, Some, None, Result, Ok, Err, fold, sym, subst, ◌∙◌}
use Rattle.constructs.specs.Turns.{Turn}
use Rattle.constructs.specs.Construct.{Says}
use Rattle.constructs.proofs.Agree.{agree}
use Rattle.bison_words.specs.declared.nesting.Nesting.{Nesting}
use Rattle.bison_words.specs.declared.nesting.Depth.{Depth}
use Rattle.bison_words.specs.Words.{Item}
use Rattle.bison_words.specs.Here.{Turn as Pieces}
use Rattle.bison_words.specs.Nested.{Passage, after_piece, outermost, onward, step_outcome, IsStep, step, passage}
use Rattle.bison_words.specs.NestedGraph.{pieces_graph}
use Rattle.bison_words.specs.NestedHere.{closing}
use Rattle.bison_words.proofs.Leads.{AreItemsAt, done_after, EndsAt, Ends, Leads, TurnLeads, turns_lead, prefixed_ends}
use Rattle.bison_words.proofs.NestedLoop.{read_of, closing_reads}

-- from each depth on
abbrev Passages : List ℕ → (List ℕ → ℕ → Type 0) → ℕ → (Depth → Passage) → Type 0
Passages whole T done passes = (depth : Depth) → Ends whole (λ _. T) done (read_of (passes depth))

module _ (whole : List ℕ) (T : List ℕ → ℕ → Type 0) where
  step_leads : (done : ℕ) (items : List Item) (o : Result (Option Nesting × List ℕ) ⊥) → AreItemsAt whole done items → EndsAt (λ _. T) (fold done_after done items) o
      → TurnLeads T (Passages whole T) done (step_outcome items o)
  step_leads done items (Ok (Some a, rest)) each t = record {
    later = fold done_after done items;
    there = t;
    completes = λ passes w depth. next passes w (after_piece a depth);
  }
    where
      next : (passes : Depth → Passage) → Passages whole T (fold done_after done items) passes → (o : Option Depth)
          → Ends whole (λ _. T) done (read_of (onward items rest passes o))
      next passes w (Some depth) = prefixed_ends whole done items (read_of (passes depth)) each (w depth)
      next passes w None = record { items = each; outcome = t }
  step_leads done items (Ok (None, rest)) each t = λ depth. record { items = each; outcome = t }
  step_leads done items (Err fault) each t = absurd fault

module _ {whole : List ℕ} {T : List ℕ → ℕ → Type 0} (piece : Pieces Nesting) (p : Leads whole T T (Says piece)) where
  piece_leads : (text : List ℕ) (done : ℕ) (turn : Turn (Depth → Passage)) → T text done → IsStep piece text turn → TurnLeads T (Passages whole T) done turn
  piece_leads text done turn t (step r says) = let e = (p.gets text done t).ends r says in step_leads whole T done r.items r.outcome e.items e.outcome

  pub closing_leads : Leads whole T T (Says (closing piece))
  closing_leads = record {
    gets = λ text done t. record {
      ends = λ r says.
          subst (Ends whole (λ _. T) done) (sym (closing_reads piece text) ∙ (agree (closing piece)).only text r says)
          (turns_lead T (Passages whole T) piece_leads text done (passage piece text) t ((pieces_graph piece).sound text) outermost);
    };
  }
