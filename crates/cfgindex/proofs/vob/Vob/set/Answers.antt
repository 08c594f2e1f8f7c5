use Rattle.std.proofs.Common.{◌≡◌, ◌<◌, ◌/◌, ℕ, Bool, List, length, slice_get, slice_set, Some, ap, sym, ◌∙◌, subst, arith}
use Rattle.cfgindex.specs.BitWords.{bits_of}
use Rattle.cfgindex.proofs.Words.{slice_get-bits_of, word_within, word_bit_read, length-bits_of, words_set, bits_set, changed_bit}
use Rattle.cfgindex.proofs.vob.Vob.set.Goals as goal

-- an index of the list is one of its bits
below : (words : List ℕ) (len i : ℕ) (bits : List Bool) → bits_of words len ≡ bits → i < length bits → i < len
below words len i bits is lt = omega (arith, length-bits_of words len, ap length is, lt)

pub index-word-requires : goal.index-word-requires
index-word-requires c =
    subst (λ n. c.args.i / 64 < n) (sym c.self.inside.words.ok.0)
    (word_within c.self.inside.words.items c.self.inside.len c.args.i c.self.invariant (below _ _ _ _ c.self.view_is c.requires))

pub index_mut-requires : goal.index_mut-requires
index_mut-requires c =
    subst (λ n. c.args.i / 64 < n) (sym c.self.inside.words.ok.0)
    (word_within c.self.inside.words.items c.self.inside.len c.args.i c.self.invariant (below _ _ _ _ c.self.view_is c.requires))

pub invariant_of-self : goal.invariant_of-self
invariant_of-self c = words_set _ _ _ _ _ _ c.self.invariant (below _ _ _ _ c.self.view_is c.requires) c.index-word.ensures
    c.with_bit.ensures.here c.with_bit.ensures.others c.with_bit.type_inv

pub returns-clause-bits : goal.returns-clause-bits
returns-clause-bits c = bits_set _ _ _ _ _ _ c.self.invariant (below _ _ _ _ c.self.view_is c.requires) c.index-word.ensures
    c.with_bit.ensures.here c.with_bit.ensures.others c.with_bit.type_inv ∙ ap (λ l. slice_set l c.args.i c.args.bit) c.self.view_is

pub returns-clause-changed : goal.returns-clause-changed
returns-clause-changed c = changed_bit _ _ _
    (ap (λ l. slice_get l c.args.i) (sym c.self.view_is)
    ∙ slice_get-bits_of c.self.inside.words.items c.self.inside.len c.args.i (below _ _ _ _ c.self.view_is c.requires)
    ∙ ap Some (sym (c.has_bit.ensures ∙ word_bit_read _ _ _ _ c.self.invariant (below _ _ _ _ c.self.view_is c.requires) c.index-word.ensures)))
