-- The rest of a line is unique, and what it leaves is no longer than the text.
use Rattle.std.proofs.Common.{◌≡◌, ℕ, ◌≤◌, List, length, Result, Ok, Err, ap, subst, arith, length-append}
use Rattle.constructs.specs.Graph.{IsGraph}
use Rattle.constructs.proofs.PiecesLemmas.{IsRun-run, run_only}
use Rattle.cfgwords.specs.declared.bytes.ByteClass.TheVariants as bytes
use Rattle.cfgwords.specs.declared.fault.Fault.{Fault}
use Rattle.cfgwords.specs.Bytes.{holds}
use Rattle.cfgwords.specs.FileWords.{LineRest, line_rest}

only : (text : List ℕ) (r : Result (List ℕ × List ℕ) Fault) → LineRest text r → line_rest text ≡ r
only text (Ok (word, rest)) is = ap Ok (run_only (holds bytes.Line) text word rest is)
only text (Err fault) is = absurd is

pub line_rest_graph : IsGraph LineRest line_rest
line_rest_graph = record { sound = λ text. IsRun-run (holds bytes.Line) text; only = only }

pub line_rest_no_longer : (text word rest : List ℕ) → line_rest text ≡ Ok (word, rest) → length rest ≤ length text
line_rest_no_longer text word rest e =
    let is = subst (LineRest text) e (IsRun-run (holds bytes.Line) text) in
    omega (arith, ap length is.whole, length-append word rest)
