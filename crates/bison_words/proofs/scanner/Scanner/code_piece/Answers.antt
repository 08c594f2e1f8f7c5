use Rattle.std.proofs.Common.{Some, Ok, refl}
use Rattle.constructs.specs.Construct.{again}
use Rattle.bison_words.specs.declared.class.Class.TheVariants.{Any, CodeByte}
use Rattle.bison_words.specs.declared.nesting.Nesting.TheVariants.{Opens, Closes}
use Rattle.bison_words.specs.Code.{slash_piece, less_piece, percent_piece, code_piece}
use Rattle.bison_words.specs.Runs.{some_of}
use Rattle.bison_words.proofs.NextByte.{not_found, next_byte}
use Rattle.bison_words.proofs.scanner.Scanner.code_piece.Goals as goal

pub returns-in-Some-eq47-clause-read : goal.returns-in-Some-eq47-clause-read
unfolding code_piece
returns-in-Some-eq47-clause-read c = next_byte (λ x. x) 47 code_piece slash_piece (λ len rest. refl) Any c.args.self.now c.some.new.self c.byte.new.self c.slash_piece.new.self c.byte.result c.in-Some-eq47.field-0 c.slash_piece.result
    (not_found (λ run. run.now) (some_of CodeByte) c.args.self.now c.some.new.self c.some.result c.some.ensures c.in_default.is)
    c.byte.ensures c.in-Some-eq47.is c.in-Some-eq47.field-0-test c.slash_piece.ensures.read

pub returns-in-Some-eq60-clause-read : goal.returns-in-Some-eq60-clause-read
unfolding code_piece
returns-in-Some-eq60-clause-read c = next_byte (λ x. x) 60 code_piece (λ len text. less_piece) (λ len rest. refl) Any c.args.self.now c.some.new.self c.byte.new.self c.less_piece.new.self c.byte.result c.in-Some-eq60.field-0 (Ok c.less_piece.result)
    (not_found (λ run. run.now) (some_of CodeByte) c.args.self.now c.some.new.self c.some.result c.some.ensures c.in_default.is)
    c.byte.ensures c.in-Some-eq60.is c.in-Some-eq60.field-0-test c.less_piece.ensures.read

pub returns-in-Some-eq37-clause-read : goal.returns-in-Some-eq37-clause-read
unfolding code_piece
returns-in-Some-eq37-clause-read c = next_byte (λ x. x) 37 code_piece (λ len text. percent_piece) (λ len rest. refl) Any c.args.self.now c.some.new.self c.byte.new.self c.percent_piece.new.self c.byte.result c.in-Some-eq37.field-0 (Ok c.percent_piece.result)
    (not_found (λ run. run.now) (some_of CodeByte) c.args.self.now c.some.new.self c.some.result c.some.ensures c.in_default.is)
    c.byte.ensures c.in-Some-eq37.is c.in-Some-eq37.field-0-test c.percent_piece.ensures.read

pub returns-in-Some-eq123-clause-read : goal.returns-in-Some-eq123-clause-read
unfolding code_piece
returns-in-Some-eq123-clause-read c = next_byte (λ x. x) 123 code_piece (λ len text. again Opens) (λ len rest. refl) Any c.args.self.now c.some.new.self c.byte.new.self c.byte.new.self c.byte.result c.in-Some-eq123.field-0 (Ok (Some Opens))
    (not_found (λ run. run.now) (some_of CodeByte) c.args.self.now c.some.new.self c.some.result c.some.ensures c.in_default.is)
    c.byte.ensures c.in-Some-eq123.is c.in-Some-eq123.field-0-test (refl, refl, refl)

pub returns-in-Some-eq125-clause-read : goal.returns-in-Some-eq125-clause-read
unfolding code_piece
returns-in-Some-eq125-clause-read c = next_byte (λ x. x) 125 code_piece (λ len text. again Closes) (λ len rest. refl) Any c.args.self.now c.some.new.self c.byte.new.self c.byte.new.self c.byte.result c.in-Some-eq125.field-0 (Ok (Some Closes))
    (not_found (λ run. run.now) (some_of CodeByte) c.args.self.now c.some.new.self c.some.result c.some.ensures c.in_default.is)
    c.byte.ensures c.in-Some-eq125.is c.in-Some-eq125.field-0-test (refl, refl, refl)
