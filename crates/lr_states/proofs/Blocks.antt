-- One state's nodes after the other's.
use Rattle.std.proofs.Common.{◌≡◌, ◌<◌, ◌≤◌, ℕ, List, [], ◌∷◌, ◌++◌, get_or, length, refl, sym, subst, arith}
use Rattle.std.proofs.lemmas.List.{get_or_append_left, length_push}
use Rattle.lr_states.specs.Automaton.{Automaton}
use Rattle.lr_states.specs.declared.lookaheads.nodes.Block.{Block}
use Rattle.lr_states.specs.Inner.Numbers.{AreBlocks, IsBlock, nth_block}
use Rattle.lr_states.proofs.Growing.{each_pushed}

pub blocks_none : (rules : ℕ) (x : Automaton) (from : ℕ) → AreBlocks rules x from [] from
blocks_none rules x from = record {
  upto = omega arith;
  each = λ q low. absurd (omega (arith, low));
  after = λ q low. absurd (omega (arith, low));
  order = λ q r less low. absurd (omega (arith, low));
  before = λ q low. absurd (omega (arith, low));
}

module _ (rules : ℕ) (x : Automaton) (from : ℕ) (blocks : List Block) (to : ℕ) (are : AreBlocks rules x from blocks to) (q : ℕ) (count : length blocks ≡ q) (block : Block)
    (is : IsBlock rules (get_or x.states q []) (get_or x.targets q []) block) (first : block.items ≡ to) where
  old_block : (p : ℕ) → p < length blocks → nth_block (blocks ++ block ∷ []) p ≡ nth_block blocks p
  old_block p low = get_or_append_left blocks (block ∷ []) _ p low

  split : (P : ℕ → Block → Type 0) → ((p : ℕ) → p < length blocks → P p (nth_block blocks p)) → P q block → (p : ℕ) → p < length (blocks ++ block ∷ []) → P p (nth_block (blocks ++ block ∷ []) p)
  split P early late p low =
      each_pushed P blocks (blocks ++ block ∷ []) block _ (length blocks) refl refl early (subst (λ m. P m block) (sym count) late) p (let long = length_push blocks block in omega (arith, low, long))

  pub blocks_more : AreBlocks rules x from (blocks ++ block ∷ []) block.end
  blocks_more =
      let upto = are.upto in
      let top = is.first in
      let last = is.last in
      record {
        upto = omega (arith, upto, top, last, first);
        each = split (λ p b. IsBlock rules (get_or x.states p []) (get_or x.targets p []) b) are.each is;
        after = split (λ p b. from ≤ b.items) are.after (omega (arith, upto, first));
        order = λ p r less low. split (λ m b. p < m → (nth_block (blocks ++ block ∷ []) p).end ≤ b.items)
            (λ m inside under. subst (λ (b : Block). b.end ≤ (nth_block blocks m).items) (sym (old_block p (omega (arith, inside, under)))) (are.order p m under inside))
            (λ under.
            let here : p < length blocks = omega (arith, under, count) in
            let before = are.before p here in
            subst (λ (b : Block). b.end ≤ block.items) (sym (old_block p here)) (omega (arith, before, first)))
            r low less;
        before = split (λ p b. b.end ≤ block.end) (λ p low. let before = are.before p low in omega (arith, before, top, last, first)) (omega arith);
      }
