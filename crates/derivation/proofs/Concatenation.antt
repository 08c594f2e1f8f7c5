-- Derivations one after another, side by side, and inside a longer list.
use Rattle.std.proofs.Common.{ℕ, List, [], ◌∷◌, ◌++◌, append_assoc, append-nil, refl, sym, ap, ◌∙◌}
use Rattle.derivation.specs.Grammar.{Sym, Rule}
use Rattle.derivation.specs.Derivation.{Step, Derives, none, next}

module _ (P : ℕ → List Sym → Type 0) where
  pub derives_trans : {a b c : List Sym} → Derives P a b → Derives P b c → Derives P a c
  derives_trans none d = d
  derives_trans (next s d) e = next s (derives_trans d e)

  step_left : (x : List Sym) {a b : List Sym} → Step P a b → Step P (x ++ a) (x ++ b)
  step_left x s = record {
    before = x ++ s.before;
    rule = s.rule;
    after = s.after;
    symbols = s.symbols;
    has = s.has;
    source = ap (λ l. x ++ l) s.source ∙ sym (append_assoc x s.before (Rule s.rule ∷ s.after));
    target = ap (λ l. x ++ l) s.target ∙ sym (append_assoc x s.before (s.symbols ++ s.after));
  }

  step_right : (y : List Sym) {a b : List Sym} → Step P a b → Step P (a ++ y) (b ++ y)
  step_right y s = record {
    before = s.before;
    rule = s.rule;
    after = s.after ++ y;
    symbols = s.symbols;
    has = s.has;
    source = ap (λ l. l ++ y) s.source ∙ append_assoc s.before (Rule s.rule ∷ s.after) y;
    target = ap (λ l. l ++ y) s.target ∙ append_assoc s.before (s.symbols ++ s.after) y
        ∙ ap (λ l. s.before ++ l) (append_assoc s.symbols s.after y);
  }

  pub derives_left : (x : List Sym) {a b : List Sym} → Derives P a b → Derives P (x ++ a) (x ++ b)
  derives_left x none = none
  derives_left x (next s d) = next (step_left x s) (derives_left x d)

  pub derives_right : (y : List Sym) {a b : List Sym} → Derives P a b → Derives P (a ++ y) (b ++ y)
  derives_right y none = none
  derives_right y (next s d) = next (step_right y s) (derives_right y d)

  pub derives_both : {a b : List Sym} (x y : List Sym) → Derives P a x → Derives P b y → Derives P (a ++ b) (x ++ y)
  derives_both {b = b} x y d e = derives_trans (derives_right b d) (derives_left x e)

  -- in one step a rule becomes the symbols of any of its productions
  pub step_production : (r : ℕ) (symbols : List Sym) → P r symbols → Step P (Rule r ∷ []) symbols
  step_production r symbols has = record {
    before = [];
    rule = r;
    after = [];
    symbols = symbols;
    has = has;
    source = refl;
    target = sym (append-nil symbols);
  }

  pub derives_production : (r : ℕ) (symbols : List Sym) → P r symbols → Derives P (Rule r ∷ []) symbols
  derives_production r symbols has = next (step_production r symbols has) none
