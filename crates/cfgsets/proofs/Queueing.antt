-- What a production gives was added, and the productions that depend on the rules whose sets grew were queued.
use Rattle.std.proofs.Common.{◌≡◌, ℕ, inl, inr, Bool, false, List, Contains, sym, ◌∙◌, true≢false}
use Rattle.derivation.specs.Grammar.{Grammar, Production}
use Rattle.cfgsets.specs.Growth.{AddsProduction, AddsInto}
use Rattle.cfgsets.specs.Waiting.{waits, Waits}
use Rattle.cfgsets.specs.Work.{dependents_of, Queues}

module _ {X : Type 0} (holds : Grammar → X → Type 0) (covers : X → Production → Type 0) (bits : X → ℕ) (depends_on : Production → ℕ → Type 0) where
  pub takes_into : (no_more : ℕ → X → X → Type 0) (p : Production) (dependents : List (List ℕ)) (old new : X) (grown waiting waiting' : List Bool)
      → AddsProduction holds covers bits depends_on no_more p old new (Waits grown) → Queues dependents (Waits grown) waiting waiting'
      → AddsInto holds covers bits depends_on no_more p dependents old new waiting waiting'
  takes_into no_more p dependents old new grown waiting waiting' w v = record {
    sound = w.sound;
    no_less = w.no_less;
    shape = v.shape;
    more = λ r unless. w.more r ((w.gains r).1 unless);
    again = λ q. (
      (λ h. elim ((v.waits q).0 h) [
        | inl i ↦ inl i
        | inr i ↦ inr (record { rule = i.rule; gains = (w.gains i.rule).0 i.gains; noted = i.noted })
      ]),
      (λ h. (v.waits q).1 (elim h [
        | inl i ↦ inl i
        | inr i ↦ inr (record { rule = i.rule; gains = (w.gains i.rule).1 i.gains; noted = i.noted })
      ])),
    );
    closed = λ n noted off. w.closed (λ r depends gains. none n off r (noted r depends) gains);
    stays = λ q n noted off. w.stays q (λ r depends gains. none n off r (noted r depends) gains);
  }
    where
      none : (n : ℕ) → waits waiting' n ≡ false → (r : ℕ) → Contains (dependents_of dependents r) n → Waits grown r → ⊥
      none n off r h gains = true≢false (sym ((v.waits n).1 (inr (record { rule = r; gains = gains; noted = h }))) ∙ off)
