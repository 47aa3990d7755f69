-- The first accessor that is inside a cell, found from the front.
use Rattle.std.proofs.Common.{◌≡◌, ℕ, suc, ◌+◌, ◌<◌, ◌≤◌, List, length, drop, get_or, true, false, ap, refl, ◌∙◌}
use Rattle.std.proofs.lemmas.List.{drop_more}
use Rattle.std.proofs.Math.ListN.{drop_of_length-le}
use Rattle.lz_proto.specs.declared.pos.Pos.{Pos}
use Rattle.lz_proto.specs.declared.pos.Pos.TheVariants.{Idle}
use Rattle.lz_proto.specs.Once.{is_inside, first_inside}

pub goes_on : (c : ℕ) (at : List Pos) (i : ℕ) → i < length at → is_inside c (get_or at i Idle) ≡ false → first_inside c (drop i at) ≡ suc (first_inside c (drop (i + 1) at))
unfolding first_inside
goes_on c at i within e = ap (first_inside c) (drop_more at i Idle within) ∙ rw e refl

pub stops : (c : ℕ) (at : List Pos) (i : ℕ) → i < length at → is_inside c (get_or at i Idle) ≡ true → first_inside c (drop i at) ≡ 0
unfolding first_inside
stops c at i within e = ap (first_inside c) (drop_more at i Idle within) ∙ rw e refl

pub ends : (c : ℕ) (at : List Pos) (i : ℕ) → length at ≤ i → first_inside c (drop i at) ≡ 0
unfolding first_inside
ends c at i past = ap (first_inside c) (drop_of_length-le at past)
