-- `==` distinguishes two kinds of errors exactly if callers see them differ.
use Rattle.std.proofs.Common.{◌≡◌, ◌↔◌, IsTrue, refl, ap, true, ◌==◌, eqb-true, eq-eqb}
use Rattle.std.specs.Str.{bytes_eq}
use Rattle.std.proofs.lemmas.Bool.{and_from, and_parts, false≢true}
use lib.Pointwise.{bytes_decides}
use Rattle.cfgerrors.specs.declared.header.HeaderErrorKind.{HeaderErrorKind}
use Rattle.cfgerrors.specs.declared.header.HeaderErrorKind.TheVariants as rust
use Rattle.cfgerrors.specs.contracts.header.HeaderErrorKindPartialEq.TheImpl.{ghosts as kinds}
use Rattle.cfgerrors.specs.HeaderErrors.{ExpectedToken, UnexpectedToken, InvalidEntry, ConversionError, error_kind_view}

-- if the derived `==` finds two the same, so do callers
pub error_kind_view-eq : (x y : HeaderErrorKind) → kinds.eq x y ≡ true → error_kind_view x ≡ error_kind_view y
error_kind_view-eq rust.MissingGrmtoolsSection rust.MissingGrmtoolsSection h = refl
error_kind_view-eq rust.IllegalName rust.IllegalName h = refl
error_kind_view-eq (rust.ExpectedToken c) (rust.ExpectedToken d) h = ap ExpectedToken (eqb-true c d h)
error_kind_view-eq (rust.UnexpectedToken c hint) (rust.UnexpectedToken d other) h =
    let both = and_parts (c == d) (bytes_eq hint.now other.now) h in
    λ i. UnexpectedToken (eqb-true c d both.0 i) ((bytes_decides hint.now other.now).0 both.1 i)
error_kind_view-eq rust.DuplicateEntry rust.DuplicateEntry h = refl
error_kind_view-eq (rust.InvalidEntry what) (rust.InvalidEntry other) h = ap InvalidEntry ((bytes_decides what.now other.now).0 h)
error_kind_view-eq (rust.ConversionError expected cause) (rust.ConversionError other why) h =
    let both = and_parts (bytes_eq expected.now other.now) (bytes_eq cause.now why.now) h in
    λ i. ConversionError ((bytes_decides expected.now other.now).0 both.0 i) ((bytes_decides cause.now why.now).0 both.1 i)
error_kind_view-eq x y h = absurd (false≢true h)

-- and if callers see the same, so does it
pub eq-error_kind_view : (x y : HeaderErrorKind) → error_kind_view x ≡ error_kind_view y → kinds.eq x y ≡ true
eq-error_kind_view rust.MissingGrmtoolsSection rust.MissingGrmtoolsSection e = refl
eq-error_kind_view rust.IllegalName rust.IllegalName e = refl
eq-error_kind_view (rust.ExpectedToken c) (rust.ExpectedToken d) e = eq-eqb c d cc
eq-error_kind_view (rust.UnexpectedToken c hint) (rust.UnexpectedToken d other) e =
    and_from (c == d) (bytes_eq hint.now other.now) (eq-eqb c d cc) ((bytes_decides hint.now other.now).1 cc)
eq-error_kind_view rust.DuplicateEntry rust.DuplicateEntry e = refl
eq-error_kind_view (rust.InvalidEntry what) (rust.InvalidEntry other) e = (bytes_decides what.now other.now).1 cc
eq-error_kind_view (rust.ConversionError expected cause) (rust.ConversionError other why) e =
    and_from (bytes_eq expected.now other.now) (bytes_eq cause.now why.now) ((bytes_decides expected.now other.now).1 cc) ((bytes_decides cause.now why.now).1 cc)
eq-error_kind_view x y e = let no : ⊥ = cc in absurd no

pub error_kind_iff : (x y : HeaderErrorKind) → IsTrue (kinds.eq x y) ↔ (error_kind_view x ≡ error_kind_view y)
error_kind_iff x y = (error_kind_view-eq x y, eq-error_kind_view x y)
