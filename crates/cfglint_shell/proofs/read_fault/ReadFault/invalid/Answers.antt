use Rattle.std.proofs.Common.{rules, ◌≡◌, ◌<◌, ◌++◌, true, codes, get_or, string_bytes, ap, ◌∙◌}
use Rattle.std.proofs.lemmas.Fmt.{hex_byte}
use Rattle.cfglint_shell.specs.ReadFaults as faults
use Rattle.cfglint_shell.proofs.read_fault.ReadFault.invalid.Goals as goal

pub returns : goal.returns
returns c =
    let byte = get_or c.args.bytes.now c.args.valid 0 in
    let small : byte < 256 = search (rules, c.type_inv.bytes c.args.valid) in
    let digits = rw c.laid_out.ensures at (rw c.in_radix.ensures at c.in_ok-format.ensures.ok) in
    let message : string_bytes c.in_ok-format.field-0 ≡ codes "Not UTF-8: found the byte 0x" ++ faults.hex_byte byte =
    digits ∙ ap (λ digits. codes "Not UTF-8: found the byte 0x" ++ digits) (hex_byte true byte small) in
    λ i. record { text = c.text_of.ensures i; kind = codes "invalid-encoding"; message = message i }
