-- A text is a list of bytes in UTF-8. An offset is named by the suffix that begins there; in bytes it is the whole text's length less the
-- suffix's.
use Rattle.std.specs.Prelude.{ℕ, List, length, ◌+◌, ◌-◌}
use Rattle.cfgbase.specs.declared.span.Span.{Span}
use Rattle.cfgwords.specs.declared.fault.Fault.{Fault}
use Rattle.cfgwords.specs.declared.fault.FaultKind.{FaultKind}

-- the offset where left begins in a text of len bytes
abbrev pub offset_of : ℕ → List ℕ → ℕ
offset_of len left = len - length left

-- the span of a piece that begins at an offset
abbrev pub span_of : ℕ → List ℕ → Span
span_of start piece = record { start = start; end = start + length piece }

-- a fault of this kind, right where the text is left
abbrev pub fault_at : ℕ → FaultKind → List ℕ → Fault
fault_at len kind left = record { kind = kind; span = record { start = offset_of len left; end = offset_of len left } }
