-- Where a value was given, as plain data.
use Rattle.std.specs.Prelude.{ℕ, List}
use Rattle.std.specs.String.{string_bytes}
use Rattle.cfgbase.specs.declared.span.Span.{Span}
use Rattle.cfgbase.specs.declared.span.Location.{Location}
use Rattle.cfgbase.specs.declared.span.Location.TheVariants as rust

-- a span of a text, the command line, or a description
pub data Origin : Type 0 where
  InText : Span → Origin
  OnCommandLine : Origin
  InWords : List ℕ → Origin

-- a location of the code, without the memory that holds its description
abbrev pub location_view : Location → Origin
location_view (rust.Span span) = InText span
location_view rust.CommandLine = OnCommandLine
location_view (rust.Other words) = InWords (string_bytes words)
