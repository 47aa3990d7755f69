use Rattle.std.proofs.Common.{◌≡◌, ℕ, suc, ◌+◌, ◌<◌, List, ◌∷◌, ◌++◌, length, get_or, take, drop, ap, ◌∙◌, sym, add-one}
use Rattle.std.proofs.Math.Seq.{drop-cons}
use Rattle.std.proofs.lemmas.List.{take-append-drop}
use Rattle.std.proofs.lemmas.Grind.{flat_map-append}
use Rattle.ty_prog.specs.declared.event.Event.{Event}
use Rattle.sl_top.specs.Trace.{event_text, trace_text}

-- what stands before an element, the element, and the rest
pub cut_at : {A : Type 0} (xs : List A) (i : ℕ) (x : A) → i < length xs → x ≡ get_or xs i x → xs ≡ take i xs ++ x ∷ drop (i + 1) xs
cut_at xs i x h is =
    let rest : drop i xs ≡ x ∷ drop (i + 1) xs = rw add-one (drop-cons xs i x h ∙ ap (λ y. y ∷ drop (suc i) xs) (sym is)) in
    sym (take-append-drop i xs) ∙ ap (λ ys. take i xs ++ ys) rest

-- the text up to an event, that of the event, and the rest
pub parted : (events : List Event) (i : ℕ) (e : Event) → i < length events → e ≡ get_or events i e → trace_text events ≡ trace_text (take i events) ++ (event_text e ++ trace_text (drop (i + 1) events))
parted events i e h is = ap trace_text (cut_at events i e h is) ∙ flat_map-append event_text (take i events) (e ∷ drop (i + 1) events)
