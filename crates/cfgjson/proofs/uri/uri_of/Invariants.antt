use Rattle.std.proofs.Common.{◌≡◌, string_bytes, take}
use Rattle.cfgjson.specs.Sarif.{uri_of}
use Rattle.cfgjson.proofs.uri.uri_of.Given as goal

-- the bytes so far
abbrev pub invariant-loop-byte : goal.invariant-loop-byte
invariant-loop-byte l = string_bytes l.uri ≡ uri_of (take l.byte-index l.byte-items)
