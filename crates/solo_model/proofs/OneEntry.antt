-- An entry goes on in one way, where a text and its tokens are read in one way.
use Rattle.std.proofs.Common.{◌≡◌, ◌∙◌, ◌⊎◌, ap, sym, subst, ℕ, List, inl, inr}
use Rattle.door.specs.declared.requests.Answer.{Answer}
use Rattle.door.specs.declared.marks.Entry.{Entry}
use Rattle.door.specs.declared.marks.Entry.TheVariants.{Script as ScriptEntry, Listener, Timer, Serve}
use Rattle.door.specs.declared.marks.Outcome.TheVariants.{Syntax}
use Rattle.js_syntax.specs.declared.token.Token.{Token}
use Rattle.js_syntax.specs.declared.token_fault.LexKind.{LexKind}
use Rattle.js_syntax.specs.declared.parse_fault.ParseFault.{ParseFault}
use Rattle.js_syntax.specs.declared.tree.Script.{Script}
use Rattle.js_syntax.specs.declared.tree.Stmt.{Stmt}
use Rattle.js_syntax.specs.Tokens.{AreTokens}
use Rattle.js_syntax.specs.TokenFaults.{IsFault}
use Rattle.js_syntax.specs.Scripts.{IsScript, IsFirstFault}
use Rattle.js_syntax.specs.declared.limits.TheConstants.{CHAIN_LIMIT, LEVEL_LIMIT}
use Rattle.js_semantics.specs.Machine.{Machine}
use Rattle.js_semantics.specs.Solo.{Program, Emits, Leaves}
use Rattle.js_semantics.specs.Meaning.{script_entry}
use Rattle.js_semantics.specs.Entries.{FUEL, Spells, HasNoTokens, HasNoScript, Runs, Refuses, enters, lex_name, parse_name}
use Rattle.solo_model.proofs.FirstFaults.{no_fault, one_fault}

-- what the laws of the readers say
pub record OneReading : Type 0 where
  pub tokens : (text : List ℕ) (ts us : List Token) → AreTokens text ts → AreTokens text us → ts ≡ us
  pub apart : (text : List ℕ) (ts : List Token) (at : ℕ) (kind : LexKind) → AreTokens text ts → IsFault text at kind → ⊥
  pub fault : (text : List ℕ) (at place : ℕ) (kind other : LexKind) → IsFault text at kind → IsFault text place other → (at ≡ place) × (kind ≡ other)
  pub script : (chains levels : ℕ) (ts : List Token) (script other : Script) → IsScript chains levels ts script → IsScript chains levels ts other → script ≡ other

-- ---- what a text spells

is_of : (script : Script) (ts us : List Token) → us ≡ ts → IsScript CHAIN_LIMIT LEVEL_LIMIT us script → IsScript CHAIN_LIMIT LEVEL_LIMIT ts script
is_of script ts us e is = subst (λ (vs : List Token). IsScript CHAIN_LIMIT LEVEL_LIMIT vs script) e is

faulty_of : (fault : ParseFault) (ts us : List Token) → us ≡ ts → IsFirstFault CHAIN_LIMIT LEVEL_LIMIT us fault → IsFirstFault CHAIN_LIMIT LEVEL_LIMIT ts fault
faulty_of fault ts us e is = subst (λ (vs : List Token). IsFirstFault CHAIN_LIMIT LEVEL_LIMIT vs fault) e is

one_body : OneReading → (text : List ℕ) (body other : List Stmt) → Spells text body → Spells text other → body ≡ other
one_body one text body other (ts, a, is) (us, b, also) =
    ap (λ (script : Script). script.body) (one.script CHAIN_LIMIT LEVEL_LIMIT ts (record { body = body }) (record { body = other }) is (is_of (record { body = other }) ts us (one.tokens text us ts b a) also))

-- ---- why it spells nothing

abbrev HasNothing : List ℕ → ℕ → List ℕ → Type 0
HasNothing text at name = HasNoTokens text at name ⊎ HasNoScript text at name

spelled_or_not : OneReading → (text : List ℕ) (body : List Stmt) (at : ℕ) (name : List ℕ) → Spells text body → HasNothing text at name → ⊥
spelled_or_not one text body at name (ts, a, is) (inl (kind, fault, e)) = one.apart text ts at kind a fault
spelled_or_not one text body at name (ts, a, is) (inr (us, fault, b, first, e, f)) =
    no_fault CHAIN_LIMIT LEVEL_LIMIT ts (record { body = body }) fault is (faulty_of fault ts us (one.tokens text us ts b a) first)

one_reason : OneReading → (text : List ℕ) (at place : ℕ) (name other : List ℕ) → HasNothing text at name → HasNothing text place other → (at ≡ place) × (name ≡ other)
one_reason one text at place name other (inl (kind, fault, e)) (inl (also, second, f)) =
    let same = one.fault text at place kind also fault second in
    (same.0, e ∙ ap lex_name same.1 ∙ sym f)
one_reason one text at place name other (inl (kind, fault, e)) (inr (us, second, b, first, p, f)) = absurd (one.apart text us at kind b fault)
one_reason one text at place name other (inr (us, second, b, first, p, f)) (inl (kind, fault, e)) = absurd (one.apart text us place kind b fault)
one_reason one text at place name other (inr (ts, fault, a, first, p, e)) (inr (us, second, b, also, q, f)) =
    let same = one_fault CHAIN_LIMIT LEVEL_LIMIT ts fault second first (faulty_of second ts us (one.tokens text us ts b a) also) in
    (p ∙ ap (λ (x : ParseFault). x.at) same ∙ sym q, e ∙ ap (λ (x : ParseFault). parse_name x.kind) same ∙ sym f)

-- ---- entries

abbrev Back : Type 0
Back = Machine → Answer → Program Machine

abbrev Goes : List ℕ → ℕ → Machine → Back → Program Machine → Type 0
Goes text levels m back tree = Runs text levels m back tree ⊎ Refuses text levels m back tree

one_script_entry : OneReading → (text : List ℕ) (levels : ℕ) (m : Machine) (back : Back) (tree other : Program Machine) → Goes text levels m back tree → Goes text levels m back other → tree ≡ other
one_script_entry one text levels m back tree other (inl (body, a, e)) (inl (also, b, f)) =
    e ∙ ap (λ (stmts : List Stmt). script_entry FUEL levels stmts m back) (one_body one text body also a b) ∙ sym f
one_script_entry one text levels m back tree other (inl (body, a, e)) (inr (at, name, b, f)) = absurd (spelled_or_not one text body at name a b)
one_script_entry one text levels m back tree other (inr (at, name, b, f)) (inl (body, a, e)) = absurd (spelled_or_not one text body at name a b)
one_script_entry one text levels m back tree other (inr (at, name, a, e)) (inr (place, word, b, f)) =
    let same = one_reason one text at place name word a b in
    e ∙ ap (λ (n : ℕ). Emits (Leaves (Syntax n name) 0) levels m back) same.0 ∙ ap (λ (w : List ℕ). Emits (Leaves (Syntax place w) 0) levels m back) same.1 ∙ sym f

pub one_entry : OneReading → (entry : Entry) (levels : ℕ) (m : Machine) (back : Back) (tree other : Program Machine) → enters entry levels m back tree → enters entry levels m back other → tree ≡ other
one_entry one (ScriptEntry text) levels m back tree other a b = one_script_entry one text levels m back tree other a b
one_entry one (Listener place event current) levels m back tree other a b = a ∙ sym b
one_entry one (Timer place) levels m back tree other a b = a ∙ sym b
one_entry one (Serve value operation) levels m back tree other a b = absurd a
