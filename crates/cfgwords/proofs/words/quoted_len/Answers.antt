use Rattle.std.proofs.Common.{arith, ◌≡◌, ℕ, List, ◌-◌, take, length, drop, get_or, sym, ◌∙◌, length-drop}
use Rattle.std.specs.List.{prefix_len}
use Rattle.std.proofs.lemmas.List.{take_rest}
use Rattle.std.proofs.lemmas.List.Sums.{prefix_len-le-length}
use Rattle.cfgwords.specs.FileWords.{is_inside}
use Rattle.cfgwords.proofs.Quoted.{quoted_short, quoted_other, quoted_line, quoted_open, quoted_other_end, quoted_found}
use Rattle.cfgwords.proofs.words.quoted_len.Goals as goal
use Rattle.cfgwords.proofs.words.quoted_len.Goals.{then-bytes-lt2-via-then-bytes-lt2, then-bytes-lt2-via-else-bytes-lt2+then-not-holds, then-bytes-lt2-via-else-bytes-lt2+else-not-holds+then-bytes-eq10, else-len-bytes-via-then-len-bytes+else-bytes-len, else-len-bytes-via-else-len-bytes}

inside_is : (text : List ℕ) (n : ℕ) → n ≡ prefix_len (is_inside (get_or text 0 0)) (take (length text - 2) (drop 2 text))
    → n ≡ prefix_len (is_inside (get_or text 0 0)) (drop 2 text)
inside_is text n e = rw take_rest at e

pub returns-then-bytes-lt2 : goal.returns-then-bytes-lt2
returns-then-bytes-lt2 c = elim c.then-bytes-lt2.branch [
  | then-bytes-lt2-via-then-bytes-lt2 w ↦ quoted_short c.args.bytes.now (omega arith)
  | then-bytes-lt2-via-else-bytes-lt2+then-not-holds w ↦ quoted_other c.args.bytes.now (omega arith) (sym w.holds.ensures ∙ w.if-not-holds.true)
  | then-bytes-lt2-via-else-bytes-lt2+else-not-holds+then-bytes-eq10 w ↦ quoted_line c.args.bytes.now (omega arith) w.if-bytes-eq10.true
]

pub overflow_add-len : goal.overflow_add-len
overflow_add-len c = omega (arith, c.inside_len-len.ensures, inside_is c.args.bytes.now _ c.inside_len-len.ensures, prefix_len-le-length (is_inside (get_or c.args.bytes.now 0 0)) (drop 2 c.args.bytes.now), length-drop 2 c.args.bytes.now)

pub returns-then-bytes-len : goal.returns-then-bytes-len
returns-then-bytes-len c = quoted_found c.args.bytes.now (omega arith) (sym c.holds.ensures ∙ c.if-not-holds.false) c.if-bytes-eq10.false _ (inside_is c.args.bytes.now _ c.inside_len-len.ensures) c.if-len-bytes.true c.if-bytes-len.true

pub returns : goal.returns
returns c = elim c.else-len-bytes.branch [
  | else-len-bytes-via-then-len-bytes+else-bytes-len w ↦ quoted_other_end c.args.bytes.now (omega arith) (sym c.holds.ensures ∙ c.if-not-holds.false) c.if-bytes-eq10.false _ (inside_is c.args.bytes.now _ c.inside_len-len.ensures) w.if-len-bytes.true w.if-bytes-len.false
  | else-len-bytes-via-else-len-bytes w ↦ quoted_open c.args.bytes.now (omega arith) (sym c.holds.ensures ∙ c.if-not-holds.false) c.if-bytes-eq10.false _ (inside_is c.args.bytes.now _ c.inside_len-len.ensures) w.if-len-bytes.false
]
