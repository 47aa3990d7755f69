-- The text of a trace. A text is the list of its bytes, in UTF-8: LF is 10, CR 13 and `\` 92.
use Rattle.std.specs.Prelude.{ℕ, Bool, true, false, ◌==◌, if◌then◌else◌, List, [], ◌∷◌, ◌++◌, flat_map, codes, decimal, encode_utf8_all, Option, None, Some}
use Rattle.ty_prog.specs.declared.event.Event.{Event}
use Rattle.ty_prog.specs.declared.event.Event.TheVariants.{Line, Uncaught}

-- a byte as it stands in a trace that names threads: `\`, LF and CR as `\\`, `\n` and `\r`
abbrev pub escape : ℕ → List ℕ
escape byte =
    if byte == 92 then 92 ∷ 92 ∷ []
    else (if byte == 10 then 92 ∷ 110 ∷ []
    else (if byte == 13 then 92 ∷ 114 ∷ [] else byte ∷ []))

-- a text so
abbrev pub escaped : List ℕ → List ℕ
escaped text = flat_map escape text

-- what follows the class of an uncaught exception: its message, where it has one
abbrev pub message_text : Option (List ℕ) → List ℕ
message_text None = []
message_text (Some message) = codes ": " ++ encode_utf8_all message

-- what is told of an uncaught exception
abbrev pub uncaught_text : ℕ → List ℕ → Option (List ℕ) → List ℕ
uncaught_text thread class message =
    codes "uncaught in thread " ++ (decimal thread ++ (codes ": " ++ (encode_utf8_all class ++ message_text message)))

-- the line of an event, without its LF; where threads are named, a printed line tells its thread
abbrev pub event_line : Bool → Event → List ℕ
event_line false (Line thread text) = encode_utf8_all text
event_line false (Uncaught thread class message) = uncaught_text thread class message
event_line true (Line thread text) = codes "line " ++ (decimal thread ++ (codes ": " ++ escaped (encode_utf8_all text)))
event_line true (Uncaught thread class message) = escaped (uncaught_text thread class message)

-- one event
abbrev pub event_text : Bool → Event → List ℕ
event_text numbered event = event_line numbered event ++ 10 ∷ []

-- the events, one after another
abbrev pub trace_text : Bool → List Event → List ℕ
trace_text numbered events = flat_map (event_text numbered) events
