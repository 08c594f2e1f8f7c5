use Rattle.std.proofs.Common.{◌≡◌, ℕ, List, Bool, length, subst, sym, ap, ◌∙◌}
use Rattle.cfgindex.specs.BitWords.{AreWords, bits_of}
use Rattle.cfgindex.proofs.Words.{length-bits_of}
use Rattle.cfgindex.proofs.vob.Vob.words.Goals as goal

-- the words of a list, by its length
module _ (len : ℕ) (words shown : List ℕ) (x : List Bool) (is : AreWords len words) (ex : bits_of words len ≡ x) (same : shown ≡ words) where
  long : len ≡ length x
  long = sym (length-bits_of words len) ∙ ap length ex

  are_words : AreWords (length x) shown
  are_words = subst (AreWords (length x)) (sym same) (subst (λ n. AreWords n words) long is)

  bits_are : bits_of shown (length x) ≡ x
  bits_are = ap (λ l. bits_of l (length x)) same ∙ ap (bits_of words) (sym long) ∙ ex

pub returns-clause-words : goal.returns-clause-words
returns-clause-words c = are_words _ _ _ _ c.self.invariant c.self.view_is c.as_slice.ensures.value

pub returns-clause-bits : goal.returns-clause-bits
returns-clause-bits c = bits_are _ _ _ _ c.self.invariant c.self.view_is c.as_slice.ensures.value
