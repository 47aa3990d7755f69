-- The text of a trace.
use Rattle.std.specs.Prelude.{ℕ, ℤ, List, [], ◌∷◌, ◌++◌, flat_map, codes, decimal, encode_utf8_all, Option, None, Some}
use Rattle.std.specs.Fmt.{signed_decimal}
use Rattle.ty_prog.specs.declared.event.Event.{Event}
use Rattle.ty_prog.specs.declared.event.Event.TheVariants.{Line, Uncaught}

-- what follows the class of an uncaught exception: its message, where it has one
abbrev pub message_text : Option (List ℕ) → List ℕ
message_text None = []
message_text (Some message) = codes ": " ++ encode_utf8_all message

-- one event, with its LF
abbrev pub event_text : Event → List ℕ
event_text (Line thread text) = encode_utf8_all text ++ 10 ∷ []
event_text (Uncaught thread class message) = codes "uncaught in thread " ++ (decimal thread ++ (codes ": " ++ (encode_utf8_all class ++ (message_text message ++ 10 ∷ []))))

-- the events, one after another
abbrev pub trace_text : List Event → List ℕ
trace_text events = flat_map event_text events

-- what thread 1 shows where it prints a number
abbrev pub printed_line : ℤ → Event
printed_line value = Line 1 (signed_decimal value)
