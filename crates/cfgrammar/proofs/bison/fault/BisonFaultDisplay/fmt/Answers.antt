use Rattle.std.proofs.Common.{refl, sym, ap, codes, ◌∙◌}
use Rattle.std.proofs.Output.{has_written_of_eq, has_written_styled_of_eq}
use Rattle.std.specs.List.{join_by}
use Rattle.bison_errors.specs.declared.error.Error.{Error}
use Rattle.bison_errors.specs.ErrorTexts.{error_text}
use Rattle.cfgrammar.specs.BisonFaultTexts.{fault_text}
use Rattle.cfgrammar.proofs.bison.fault.BisonFaultDisplay.fmt.Goals as goal

pub returns-in-Errors : goal.returns-in-Errors
returns-in-Errors g c =
    let text = λ (error : Error). error_text error.kind in
    let same = ap (join_by text (codes "\n")) c.deref.ensures.value ∙ sym (ap fault_text c.in-Errors.is) in record {
      writes = λ plain ok. has_written_of_eq _ _ _ _ _ same (c.write_lines.ensures.plain text (λ error. refl) plain ok);
      styled = λ flush ok. has_written_styled_of_eq _ _ _ _ _ same (c.write_lines.ensures.styled text (λ error spec. refl) flush ok);
    }
