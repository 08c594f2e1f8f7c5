-- What a report prints, by its lines.
use Rattle.std.proofs.Common.{◌≡◌, List, ℕ, Option, Result, Ok, Err, IfOk, String, Global, string_bytes, inl, inr, sym, subst}
use Rattle.cfgrammar.specs.Answer.{Found, Unnamed, WasRead}
use Rattle.cfgrammar.specs.Numbered.{Numbered}
use Rattle.cfgrammar.specs.Syntax.{Syntax}
use Rattle.cfgsink.specs.declared.outcome.Outcome.{Outcome}
use Rattle.cfgsink.specs.declared.outcome.Outcome.TheVariants.{Done, Refused}
use Rattle.cfgsink.specs.declared.outcome.ReportFault.{ReportFault}
use Rattle.cfgsink.specs.declared.outcome.ReportFault.TheVariants as faults
use Rattle.cfgsink.specs.Reports.{WritesMade}
use Rattle.cfgprogram.specs.ReadText.{IsMadeOf}
use Rattle.cfgtool.specs.Report.{IsReport, IsReported, Reports}
use Rattle.cfgtool.specs.ReportLines.{error_lines}

module _ (AreLines : Syntax → Numbered → List ℕ → Type 0) (text : List ℕ) where
  -- what is made for a text
  abbrev pub IsMadeReport : Found → Outcome × String Global → Type 0
  IsMadeReport found report =
      IsMadeOf (λ _ errors. IsReported Refused (λ lines. lines ≡ error_lines text errors)) (λ s g. IsReported Done (AreLines s g)) found report

  -- is its report
  reported : (found : Found) (report : Outcome × String Global) → IsMadeReport found report → IsReport AreLines text found report.0 (string_bytes report.1)
  reported found report (inl (errors, refused, made)) =
      subst (λ outcome. IsReport AreLines text found outcome (string_bytes report.1)) (sym made.0) (errors, refused, made.1)
  reported (Unnamed errors) report (inr wrong) = absurd wrong
  reported (WasRead parsed) report (inr (valid, fits, made)) =
      subst (λ outcome. IsReport AreLines text (WasRead parsed) outcome (string_bytes report.1)) (sym made.0) (valid, fits, made.1)

  -- and what is written of it is reported for the text
  pub made_reported : {E : Type 0} (found : Found) (made : Result (Outcome × String Global) E) (old new : Option (List ℕ)) (answer : Result Outcome ReportFault)
      → IfOk made (IsMadeReport found) → WritesMade made old new answer → Reports AreLines text found old new answer
  made_reported found (Ok made) old new (Ok outcome) is (same, appends) =
      (string_bytes made.1, subst (λ outcome. IsReport AreLines text found outcome (string_bytes made.1)) (sym same) (reported found made is), appends)
  made_reported found (Ok made) old new (Err faults.Write) is began = (made.0, string_bytes made.1, reported found made is, began)
  made_reported found (Ok made) old new (Err faults.OutOfMemory) is wrong = absurd wrong
  made_reported found (Err refused) old new (Err faults.OutOfMemory) is keeps = keeps
  made_reported found (Err refused) old new (Ok outcome) is wrong = absurd wrong
  made_reported found (Err refused) old new (Err faults.Write) is wrong = absurd wrong
