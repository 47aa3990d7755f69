-- The first fault of a code whose bytes are refused, or whose instructions name wrong entries.
use Rattle.std.proofs.Common.{◌≡◌, refl, sym, ap, ◌∙◌, ℕ, ◌<◌, ◌≤◌, inl, inr, zero, suc, List, [], ◌∷◌, ◌++◌, length, take, drop, append_assoc, arith}
use Rattle.std.specs.Prelude.{◌≢◌}
use Rattle.std.specs.List.{flat_map, AllByRecursion}
use Rattle.std.proofs.lemmas.List.{take-append-drop}
use Rattle.std.proofs.lemmas.List.Concat.{flat_map-append}
use Rattle.cf_form.specs.Instructions.{bytes_of, Fits, IsCode, code_bytes}
use Rattle.cf_form.specs.ClassFiles.{NamesWell}
use Rattle.cf_form.specs.declared.constant.Const.{Const}
use Rattle.cf_form.specs.declared.instr.Instr.{Instr}
use Rattle.cf_instr.specs.Faults.{IsFault, FaultAt, StopsAt, JumpsAstray}
use Rattle.cf_instr.specs.declared.code_fault.CodeFault.{CodeFault}
use Rattle.cf_instr.specs.declared.code_fault.CodeKind.{CodeKind}
use Rattle.cf_instr.specs.declared.code_fault.CodeKind.TheVariants as kinds
use Rattle.cf_instr.proofs.Excluding.{one_fault, not_code}
use Rattle.cf_instr.proofs.Sizes.{offset-is}
use Rattle.cf_read.specs.Codes.{IsRefusedAt, IsBadCode, IsBadIndex}
use Rattle.cf_read.specs.Looking.{AllNameWell, IsUnnamedAt}
use Rattle.cf_read.proofs.Parses.{all_push, shorter_has}

-- whole instructions stand before this byte
pub record StandBefore (code : List ℕ) (at : ℕ) : Type 0 where
  pub front : List Instr
  pub rest : List ℕ
  pub fits : AllByRecursion Fits front
  pub splits : code ≡ flat_map bytes_of front ++ rest
  pub before : length (flat_map bytes_of front) ≡ at

stops_behind : (code : List ℕ) (at : ℕ) (kind : CodeKind) → StopsAt code at kind → StandBefore code at
stops_behind code at kind h = record { front = h.1.front; rest = h.0; fits = h.1.fits; splits = h.1.parts; before = sym h.1.here }

fits_front : (n : ℕ) (is : List Instr) → AllByRecursion Fits is → AllByRecursion Fits (take n is)
fits_front zero is h = tt
fits_front (suc n) [] h = tt
fits_front (suc n) (i ∷ is) h = (h.0, fits_front n is h.1)

jumps_behind : (code : List ℕ) (at : ℕ) → JumpsAstray code at → StandBefore code at
jumps_behind code at h = record {
  front = take h.n h.raws;
  rest = flat_map bytes_of (drop h.n h.raws);
  fits = fits_front h.n h.raws h.fits;
  splits = h.parts ∙ ap (flat_map bytes_of) (sym (take-append-drop h.n h.raws)) ∙ flat_map-append bytes_of (take h.n h.raws) (drop h.n h.raws);
  before = sym (h.here ∙ offset-is h.raws h.n);
}

pub behind_fault : (code : List ℕ) (at : ℕ) (kind : CodeKind) → kind ≢ kinds.Memory → FaultAt code at kind → StandBefore code at
behind_fault code at kinds.Opcode n h = stops_behind code at kinds.Opcode h
behind_fault code at kinds.Cut n (inl e) = record { front = []; rest = []; fits = tt; splits = e.0; before = sym e.1 }
behind_fault code at kinds.Cut n (inr h) = stops_behind code at kinds.Cut h
behind_fault code at kinds.Shape n h = stops_behind code at kinds.Shape h
behind_fault code at kinds.Jump n h = jumps_behind code at h
behind_fault code at kinds.Memory n h = absurd (n refl)

refused_by : (code : List ℕ) (f : CodeFault) → f.kind ≢ kinds.Memory → IsFault code f → IsRefusedAt code f.at
refused_by code f n h = (f, n, refl, h)

-- the code is refused, and all instructions before name what they need
pub bad_code : (pool : List Const) (code : List ℕ) (f : CodeFault) → f.kind ≢ kinds.Memory → IsFault code f → AllNameWell pool code → IsBadCode pool code f.at
bad_code pool code f n h named =
    let s = behind_fault code f.at f.kind n h in
    record { refused = refused_by code f n h; front = s.front; fits = s.fits; rest = s.rest; splits = s.splits; before = s.before; names = named s.front s.rest s.fits s.splits }

-- the code is refused before the first that doesn't
pub bad_before : (pool : List Const) (code : List ℕ) (f : CodeFault) (at : ℕ) → f.kind ≢ kinds.Memory → IsFault code f → IsUnnamedAt pool code at → f.at ≤ at
    → IsBadCode pool code f.at
bad_before pool code f at n h u l =
    let s = behind_fault code f.at f.kind n h in
    let same = sym (append_assoc (flat_map bytes_of u.front) (bytes_of u.instr) u.rest) in
    record {
      refused = refused_by code f n h;
      front = s.front;
      fits = s.fits;
      rest = s.rest;
      splits = s.splits;
      before = s.before;
      names = shorter_has (NamesWell pool) u.front s.front (bytes_of u.instr ++ u.rest) s.rest u.fits s.fits (omega (arith, s.before, u.before)) (same ∙ sym u.splits ∙ s.splits) u.names;
    }

bad_index : (pool : List Const) (code : List ℕ) (at : ℕ) → IsUnnamedAt pool code at → ((earlier : ℕ) → earlier < at → ¬ (IsRefusedAt code earlier)) → IsBadIndex pool code at
bad_index pool code at u first = record {
  front = u.front;
  instr = u.instr;
  rest = u.rest;
  fits = all_push Fits u.front u.instr u.fits u.instr_fits;
  splits = u.splits;
  before = u.before;
  names = u.names;
  bad = u.bad;
  first = first;
}

pub index_before : (pool : List Const) (code : List ℕ) (f : CodeFault) (at : ℕ) → f.kind ≢ kinds.Memory → IsFault code f → IsUnnamedAt pool code at → at < f.at
    → IsBadIndex pool code at
index_before pool code f at n h u l =
    bad_index pool code at u (λ earlier e r. let same = one_fault code r.0 f r.3 h r.1 n in absurd (omega (arith, r.2, ap (λ (g : CodeFault). g.at) same)))

pub index_of_code : (pool : List Const) (code : List ℕ) (instrs : List Instr) (at : ℕ) → IsCode instrs → code ≡ code_bytes instrs → IsUnnamedAt pool code at
    → IsBadIndex pool code at
index_of_code pool code instrs at h e u = bad_index pool code at u (λ earlier l r. not_code code r.0 instrs r.3 r.1 h e)
