-- The code that compiling a chain has emitted, from the front.
use Rattle.std.proofs.Common.{◌≡◌, ◌<◌, ◌≤◌, ◌+◌, ℕ, pos, length, take, get_or, List, [], ◌∷◌, ◌++◌, Option, Some, None, refl, sym, ap, ◌∙◌, subst, append_assoc}
use Rattle.std.proofs.lemmas.List.{append-nil, take_more, take_all}
use Rattle.sl_top.specs.declared.operator.Operator.{Operator}
use Rattle.sl_top.specs.declared.operator.Operator.TheVariants as operator
use Rattle.sl_top.specs.declared.chain.Term.{Term}
use Rattle.sl_top.specs.declared.chain.Chain.{Chain}
use Rattle.sl_top.specs.declared.code.Instruction.{Instruction}
use Rattle.sl_top.specs.declared.code.Instruction.TheVariants.{Push, Mul, Print, Return}
use Rattle.sl_top.specs.Value.{IsAdditive, term}
use Rattle.sl_top.specs.Code.{ProgramCode, ProductCode, ChainCode, literal, times, product, additive, PrintsCode, operation_of, waiting_code, term_code, waiting_after}

-- the terms so far have this code, but for the operator that waits
pub data Emitted : ℕ → List Term → Option Operator → List Instruction → Type 0 where
  alone : {n : ℕ} {terms : List Term} {code : List Instruction} → ProductCode n terms code → Emitted n terms None code
  behind : {n : ℕ} (before : List Term) (op : Operator) (m : ℕ) (after : List Term) (x y : List Instruction) → IsAdditive op → ChainCode n before x → ProductCode m after y → Emitted n (before ++ term op m ∷ after) (Some op) (x ++ y)

-- the operator that waits makes the code whole
pub ChainCode-Emitted : {n : ℕ} {terms : List Term} {waiting : Option Operator} {code : List Instruction} → Emitted n terms waiting code → ChainCode n terms (code ++ waiting_code waiting)
ChainCode-Emitted {n} {terms} (alone {code = code} p) = subst (λ c. ChainCode n terms c) (sym (append-nil code)) (product p)
ChainCode-Emitted {n} {terms} (behind before op m after x y h b a) =
    subst (λ c. ChainCode n (before ++ term op m ∷ after) c) (sym (append_assoc x y (operation_of op ∷ []))) (additive before op m after x y h b a)

-- behind whole code an operator waits
whole : {n : ℕ} {terms : List Term} {code : List Instruction} → ChainCode n terms code → (op : Operator) → IsAdditive op → (m : ℕ) → Emitted n (terms ++ term op m ∷ []) (Some op) (code ++ Push (pos m) ∷ [])
whole {terms = terms} {code = code} c op h m = behind terms op m [] code (Push (pos m) ∷ []) h c literal

-- one more factor
factor : {n : ℕ} {terms : List Term} {waiting : Option Operator} {code : List Instruction} → Emitted n terms waiting code → (m : ℕ) → Emitted n (terms ++ term operator.Mul m ∷ []) waiting (code ++ (Push (pos m) ∷ Mul ∷ []))
factor (alone {terms = terms} p) m = alone (times terms m p)
factor {n} (behind before op k after x y h b a) m =
    subst (λ ts. Emitted n ts (Some op) ((x ++ y) ++ (Push (pos m) ∷ Mul ∷ []))) (sym (append_assoc before (term op k ∷ after) (term operator.Mul m ∷ [])))
    (subst (λ c. Emitted n (before ++ (term op k ∷ after ++ term operator.Mul m ∷ [])) (Some op) c) (sym (append_assoc x y (Push (pos m) ∷ Mul ∷ [])))
    (behind before op k (after ++ term operator.Mul m ∷ []) x (y ++ (Push (pos m) ∷ Mul ∷ [])) h b (times after m a)))

-- one more term
pub Emitted-push : {n : ℕ} {terms : List Term} {waiting : Option Operator} {code : List Instruction} → Emitted n terms waiting code → (op : Operator) (m : ℕ) → Emitted n (terms ++ term op m ∷ []) (waiting_after op waiting) (code ++ term_code op m waiting)
Emitted-push {n} {terms} {waiting} {code} e operator.Add m =
    subst (λ c. Emitted n (terms ++ term operator.Add m ∷ []) (Some operator.Add) c) (append_assoc code (waiting_code waiting) (Push (pos m) ∷ [])) (whole (ChainCode-Emitted e) operator.Add tt m)
Emitted-push {n} {terms} {waiting} {code} e operator.Sub m =
    subst (λ c. Emitted n (terms ++ term operator.Sub m ∷ []) (Some operator.Sub) c) (append_assoc code (waiting_code waiting) (Push (pos m) ∷ [])) (whole (ChainCode-Emitted e) operator.Sub tt m)
Emitted-push e operator.Mul m = factor e m

-- one more chain
pub PrintsCode-push : (cs : List Chain) (c : Chain) (code one : List Instruction) → PrintsCode cs code → ChainCode c.first c.rest one → PrintsCode (cs ++ c ∷ []) (code ++ (one ++ Print ∷ []))
PrintsCode-push [] c code one p h = (one, [], h, refl, ap (λ k. k ++ (one ++ Print ∷ [])) p)
PrintsCode-push (b ∷ cs) c code one p h =
    (p.0, p.1 ++ (one ++ Print ∷ []), p.2, PrintsCode-push cs c p.1 one p.3 h, ap (λ k. k ++ (one ++ Print ∷ [])) p.4 ∙ append_assoc p.0 (Print ∷ p.1) (one ++ Print ∷ []))

-- the code of the terms that a loop has passed
pub record EmittedSoFar (n : ℕ) (terms : List Term) (waiting : Option Operator) (start code : List Instruction) : Type 0 where
  pub made : List Instruction
  pub emitted : Emitted n terms waiting made
  pub code_is : code ≡ start ++ made

-- the first literal
pub EmittedSoFar-start : (n : ℕ) (start code : List Instruction) → code ≡ start ++ Push (pos n) ∷ [] → EmittedSoFar n [] None start code
EmittedSoFar-start n start code e = record { made = Push (pos n) ∷ []; emitted = alone literal; code_is = e }

-- a loop's step, and its end
pub EmittedSoFar-more : {n : ℕ} (terms : List Term) (i : ℕ) (d : Term) (waiting next : Option Operator) (start code code' : List Instruction) → i < length terms → EmittedSoFar n (take i terms) waiting start code → code' ≡ code ++ term_code (get_or terms i d).op (get_or terms i d).literal waiting → next ≡ waiting_after (get_or terms i d).op waiting → EmittedSoFar n (take (i + 1) terms) next start code'
EmittedSoFar-more {n} terms i d waiting next start code code' h e is waits =
    let t : Term = get_or terms i d in
    let more : List Instruction = term_code t.op t.literal waiting in
    let pushed : Emitted n (take i terms ++ t ∷ []) (waiting_after t.op waiting) (e.made ++ more) = Emitted-push e.emitted t.op t.literal in
    record {
      made = e.made ++ more;
      emitted = rw (take_more terms i d h, waits) pushed;
      code_is = is ∙ ap (λ k. k ++ more) e.code_is ∙ append_assoc start e.made more;
    }

pub EmittedSoFar-all : {n : ℕ} (terms : List Term) (i : ℕ) (waiting : Option Operator) (start code code' : List Instruction) → length terms ≤ i → EmittedSoFar n (take i terms) waiting start code → code' ≡ code ++ waiting_code waiting → (made : List Instruction) × ChainCode n terms made × (code' ≡ start ++ made)
EmittedSoFar-all {n} terms i waiting start code code' h e is =
    let done : ChainCode n (take i terms) (e.made ++ waiting_code waiting) = ChainCode-Emitted e.emitted in
    (e.made ++ waiting_code waiting, rw take_all at done, is ∙ ap (λ k. k ++ waiting_code waiting) e.code_is ∙ append_assoc start e.made (waiting_code waiting))

-- the same for the chains
pub PrintsCode-more : (chains : List Chain) (i : ℕ) (c : Chain) (code code' code'' : List Instruction) → i < length chains → c ≡ get_or chains i c → PrintsCode (take i chains) code → (made : List Instruction) × ChainCode c.first c.rest made × (code' ≡ code ++ made) → code'' ≡ code' ++ Print ∷ [] → PrintsCode (take (i + 1) chains) code''
PrintsCode-more chains i c code code' code'' h is p made e =
    rw (take_more chains i c h, ← is, e, made.2, append_assoc code made.0 (Print ∷ [])) (PrintsCode-push (take i chains) c code made.0 p made.1)

pub ProgramCode-all : (chains : List Chain) (i : ℕ) (code code' : List Instruction) → length chains ≤ i → PrintsCode (take i chains) code → code' ≡ code ++ Return ∷ [] → ProgramCode chains code'
ProgramCode-all chains i code code' h p e = let q = rw take_all at p in (code, q, e)
