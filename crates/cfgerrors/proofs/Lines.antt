-- Values that are written line by line.
use Rattle.std.proofs.Common.{◌≡◌, ℕ, List, ◌++◌, Option, Some, codes}
use Rattle.std.specs.Fmt.{HasWritten, HasWrittenStyled, IsFlush, IsPlainFormatter}
use Rattle.std.specs.List.{flat_map}
use Rattle.std.specs.declared.fmt.Formatter.{Formatter}

-- the text of a value, after a line end
abbrev pub after : {T : Type 0} → (T → List ℕ) → T → List ℕ
after text value = codes "\n" ++ text value

-- these are written, each after a line end, if this is what is printed of them
pub record AreWritten {T S W : Type 0} (output : T → Option (List ℕ)) (styled_output : T → S → Option (List ℕ)) (gives : W → List ℕ → W → Type 0)
    (old : Formatter W) (values : List T) (new : Formatter W) : Type 0 where
  pub plain : (text : T → List ℕ) → ((value : T) → output value ≡ Some (text value)) → IsPlainFormatter old
      → HasWritten gives old (flat_map (after text) values) new
  pub styled : (text : T → List ℕ) → ((value : T) (spec : S) → styled_output value spec ≡ Some (text value)) → IsFlush old
      → HasWrittenStyled gives old (flat_map (after text) values) new
