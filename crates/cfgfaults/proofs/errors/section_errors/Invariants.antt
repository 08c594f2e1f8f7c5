use Rattle.std.proofs.Common.{◌≡◌, ◌++◌, map}
use Rattle.cfgsection.specs.SectionReads.{errors_view}
use Rattle.cfgerrors.specs.Errors.{header_error}
use Rattle.cfgfaults.proofs.errors.section_errors.Given as goal

-- the errors so far, and those of the rest
abbrev pub invariant-loop-error : goal.invariant-loop-error
invariant-loop-error l =
    l.errors.items ++ map header_error (errors_view l.error-iterator.rest.items) ≡ map header_error (errors_view l.fn.found.items)
