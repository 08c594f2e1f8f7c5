use Rattle.std.proofs.Common.{◌≡◌, ◌≢◌, ℕ, Bool, List, Vec, length, MatchBool, refl, subst, sym, ap, ◌∙◌}
use Rattle.std.specs.Vec.{with_items}
use Rattle.std.proofs.lemmas.List.{with_items_is}
use Rattle.cfgindex.specs.BitWords.{AreWords, AreJoined, bits_of}
use Rattle.cfgindex.proofs.Bits.{union}
use Rattle.cfgindex.proofs.Words.{length-bits_of, same_length, words_joined, bits_joined, joined_changed}
use Rattle.cfgindex.proofs.vob.Vob.or_words.Goals as goal

-- the words of a list, and as many others
module _ (len : ℕ) (words others : List ℕ) (x : List Bool) (isa : AreWords len words) (isb : AreWords (length x) others)
    (ex : bits_of words len ≡ x) where
  long : length x ≡ len
  long = sym (ap length ex) ∙ length-bits_of words len

  are_words : AreWords len others
  are_words = subst (λ n. AreWords n others) long isb

  as_long : length words ≡ length others
  as_long = same_length len words others isa are_words

  module _ {Z : Type 0} (v : Vec ℕ Z) (at : words ≡ v.items) (a new : List ℕ) (ea : a ≡ words) (w : AreJoined a others new) where
    joined : AreJoined words others new
    joined = subst (λ l. AreJoined l others new) ea w

    items_are : (with_items v new).items ≡ new
    items_are = with_items_is v new (joined.long ∙ ap length at ∙ sym v.ok.0)

    now_words : AreWords len (with_items v new).items
    now_words = subst (λ l. AreWords len l) (sym items_are) (words_joined len words others new isa are_words joined)

    now_bits : bits_of (with_items v new).items len ≡ union x (bits_of others (length x))
    now_bits = ap (λ l. bits_of l len) items_are ∙ bits_joined len words others new isa are_words joined
        ∙ ap (λ l. union l (bits_of others len)) ex ∙ ap (λ n. union x (bits_of others n)) (sym long)

    now_changed : (r : Bool) → MatchBool r (new ≢ a) (new ≡ a)
        → MatchBool r (bits_of (with_items v new).items len ≢ x) (bits_of (with_items v new).items len ≡ x)
    now_changed r grew = subst (λ l. MatchBool r (l ≢ x) (l ≡ x)) (sym (ap (λ l. bits_of l len) items_are))
        (subst (λ l. MatchBool r (bits_of new len ≢ l) (bits_of new len ≡ l)) ex
        (joined_changed len words others new isa are_words joined r (subst (λ l. MatchBool r (new ≢ l) (new ≡ l)) ea grew)))

pub or_words-requires : goal.or_words-requires
or_words-requires c = ap length c.as_mut_slice.ensures.value ∙ as_long _ _ _ _ c.self.invariant c.requires c.self.view_is

pub invariant_of-self : goal.invariant_of-self
invariant_of-self c = now_words _ _ _ _ c.self.invariant c.requires c.self.view_is c.self.inside.words refl _ _ c.as_mut_slice.ensures.value
    c.or_words.ensures.joined

pub returns-clause-bits : goal.returns-clause-bits
returns-clause-bits c = now_bits _ _ _ _ c.self.invariant c.requires c.self.view_is c.self.inside.words refl _ _ c.as_mut_slice.ensures.value
    c.or_words.ensures.joined

pub returns-clause-changed : goal.returns-clause-changed
returns-clause-changed c = now_changed _ _ _ _ c.self.invariant c.requires c.self.view_is c.self.inside.words refl _ _ c.as_mut_slice.ensures.value
    c.or_words.ensures.joined _ c.or_words.ensures.changed
