-- A userscript has one block at most, or one fault at most, and not both.
use Rattle.std.specs.Prelude.{◌≡◌, ◌≢◌, ◌⊎◌, ℕ, List, [], ◌∷◌, ◌++◌, Bool, true, false, Result, Ok, Err, refl, encode_utf8_all}
use Rattle.std.proofs.Common.{ap, sym, ◌∙◌, subst, inl, inr, true≢false}
use Rattle.metadata_block.specs.Block.{Agrees, Sets, Takes, TakesAll, Refuses, FailsAt, Fails, nothing, ReadsBlock, HasBadLine, HasNoName, FailsBlock, HasFault}
use Rattle.metadata_block.specs.Lines.{ReadsPairs}
use Rattle.metadata_block.specs.Same.{SameRules, SameMeta}
use Rattle.metadata_block.specs.declared.block.MetaFault.{MetaFault}
use Rattle.metadata_block.specs.declared.block.MetaFault.TheVariants as fault
use Rattle.metadata_block.specs.declared.lines.BlockFault.{BlockFault}
use Rattle.metadata_block.specs.declared.lines.BlockFault.TheVariants as block
use Rattle.metadata_block.specs.declared.lines.Pair.{Pair}
use Rattle.metadata_block.specs.declared.meta.Grant.{Grant}
use Rattle.metadata_block.specs.declared.meta.Meta.{Meta}
use Rattle.metadata_block.specs.declared.words.Key.{Key}
use Rattle.metadata_block.specs.declared.words.Key.TheVariants as key
use Rattle.metadata_block.proofs.OneBlock.{one_reading, one_way}
use Rattle.metadata_block.proofs.KeyWords.{one_key, one_moment, one_grant}
use Rattle.url_rules.specs.Patterns.{Rose}
use Rattle.url_rules.specs.Reads.{ReadsRule, RefusesRule}
use Rattle.url_rules.specs.Same.{SameRule}
use Rattle.url_rules.specs.declared.read.RuleFault.{RuleFault}
use Rattle.url_rules.specs.declared.read.RuleFault.TheVariants as rule
use Rattle.url_rules.specs.declared.read.RuleKind.{RuleKind}
use Rattle.url_rules.specs.declared.read.RuleKind.TheVariants as kind
use Rattle.url_rules.specs.declared.rules.Rule.{Rule}

-- the laws of rules
abbrev pub OneRule : Type 0
OneRule = (line : RuleKind) (s : List ℕ) (r q : Rule) → ReadsRule line s r → ReadsRule line s q → SameRule r q

abbrev pub NotRefused : Type 0
NotRefused = (line : RuleKind) (s : List ℕ) (r : Rule) (before after : ℕ) (f : RuleFault) → ReadsRule line s r → (Rose before after → ⊥) → f ≢ rule.NoMemory → RefusesRule before after line s f → ⊥

-- ---- lines that are taken

moved : (a b m n : Meta) → m ≡ a → n ≡ b → SameMeta a b → SameMeta m n
moved a b m n p q h = subst (λ (x : Meta). SameMeta x n) (sym p) (subst (λ (y : Meta). SameMeta a y) (sym q) h)

one_more : (rs qs : List Rule) (r q : Rule) → SameRules rs qs → SameRule r q → SameRules (rs ++ r ∷ []) (qs ++ q ∷ [])
one_more [] [] r q h e = (e, tt)
one_more [] (y ∷ qs) r q h e = absurd h
one_more (x ∷ rs) [] r q h e = absurd h
one_more (x ∷ rs) (y ∷ qs) r q h e = (h.0, one_more rs qs r q h.1 e)

more_grants : (gs hs : List Grant) (g h : Grant) → gs ≡ hs → g ≡ h → gs ++ g ∷ [] ≡ hs ++ h ∷ []
more_grants gs hs g h p q = ap (λ (xs : List Grant). xs ++ g ∷ []) p ∙ ap (λ (x : Grant). hs ++ x ∷ []) q

sets_same : OneRule → (u : Key) (value : List ℕ) (a b m n : Meta) → SameMeta a b → Sets u value a m → Sets u value b n → SameMeta m n
sets_same one key.Name value a b m n same p q =
    moved (record a { name = value }) (record b { name = value }) m n p q
    record { name = refl; namespace = same.namespace; run_at = same.run_at; grants = same.grants; includes = same.includes; excludes = same.excludes; matches = same.matches; others = same.others }
sets_same one key.Namespace value a b m n same p q =
    moved (record a { namespace = value }) (record b { namespace = value }) m n p q
    record { name = same.name; namespace = refl; run_at = same.run_at; grants = same.grants; includes = same.includes; excludes = same.excludes; matches = same.matches; others = same.others }
sets_same one key.RunAt value a b m n same p q =
    moved (record a { run_at = p.0 }) (record b { run_at = q.0 }) m n p.2 q.2
    record { name = same.name; namespace = same.namespace; run_at = one_moment p.0 q.0 (sym p.1 ∙ q.1); grants = same.grants; includes = same.includes; excludes = same.excludes; matches = same.matches; others = same.others }
sets_same one key.Grant value a b m n same p q =
    moved (record a { grants = a.grants ++ p.0 ∷ [] }) (record b { grants = b.grants ++ q.0 ∷ [] }) m n p.3 q.3
    record { name = same.name; namespace = same.namespace; run_at = same.run_at; grants = more_grants a.grants b.grants p.0 q.0 same.grants (one_grant p.0 q.0 (sym p.1 ∙ q.1)); includes = same.includes; excludes = same.excludes; matches = same.matches; others = same.others }
sets_same one key.Include value a b m n same p q =
    moved (record a { includes = a.includes ++ p.0 ∷ [] }) (record b { includes = b.includes ++ q.0 ∷ [] }) m n p.2 q.2
    record { name = same.name; namespace = same.namespace; run_at = same.run_at; grants = same.grants; includes = one_more a.includes b.includes p.0 q.0 same.includes (one kind.Glob (encode_utf8_all value) p.0 q.0 p.1 q.1); excludes = same.excludes; matches = same.matches; others = same.others }
sets_same one key.Exclude value a b m n same p q =
    moved (record a { excludes = a.excludes ++ p.0 ∷ [] }) (record b { excludes = b.excludes ++ q.0 ∷ [] }) m n p.2 q.2
    record { name = same.name; namespace = same.namespace; run_at = same.run_at; grants = same.grants; includes = same.includes; excludes = one_more a.excludes b.excludes p.0 q.0 same.excludes (one kind.Glob (encode_utf8_all value) p.0 q.0 p.1 q.1); matches = same.matches; others = same.others }
sets_same one key.Match value a b m n same p q =
    moved (record a { matches = a.matches ++ p.0 ∷ [] }) (record b { matches = b.matches ++ q.0 ∷ [] }) m n p.2 q.2
    record { name = same.name; namespace = same.namespace; run_at = same.run_at; grants = same.grants; includes = same.includes; excludes = same.excludes; matches = one_more a.matches b.matches p.0 q.0 same.matches (one kind.Pattern (encode_utf8_all value) p.0 q.0 p.1 q.1); others = same.others }

abbrev with_other : Meta → Pair → Meta
with_other m p = record m { others = m.others ++ (p.key, p.value) ∷ [] }

other_same : (a b m n : Meta) (p : Pair) → SameMeta a b → m ≡ with_other a p → n ≡ with_other b p → SameMeta m n
other_same a b m n p same e f =
    moved (with_other a p) (with_other b p) m n e f
    record { name = same.name; namespace = same.namespace; run_at = same.run_at; grants = same.grants; includes = same.includes; excludes = same.excludes; matches = same.matches; others = ap (λ (os : List (List ℕ × List ℕ)). os ++ (p.key, p.value) ∷ []) same.others }

takes_same : OneRule → (a b m n : Meta) (p : Pair) → SameMeta a b → Takes a p m → Takes b p n → SameMeta m n
takes_same one a b m n p same h k = elim h [
  | inl used ↦ elim k [
    | inl uses ↦ sets_same one used.0 p.value a b m n same used.2 (subst (λ (u : Key). Sets u p.value b n) (one_key uses.0 used.0 (sym uses.1 ∙ used.1)) uses.2)
    | inr other ↦ absurd (other.0 used.0 used.1)
  ]
  | inr other ↦ elim k [
    | inl uses ↦ absurd (other.0 uses.0 uses.1)
    | inr others ↦ other_same a b m n p same other.1 others.1
  ]
]

all_same : OneRule → (ps : List Pair) (a b m n : Meta) → SameMeta a b → TakesAll ps a m → TakesAll ps b n → SameMeta m n
all_same one [] a b m n same p q = moved a b m n p q same
all_same one (x ∷ ps) a b m n same p q = all_same one ps p.0 q.0 m n (takes_same one a b p.0 q.0 x same p.1 q.1) p.2 q.2

same_nothing : SameMeta nothing nothing
same_nothing = record { name = refl; namespace = refl; run_at = refl; grants = refl; includes = tt; excludes = tt; matches = tt; others = refl }

-- ---- lines that are refused

set_refused : NotRefused → (u : Key) (before after : ℕ) (a b m : Meta) (p : Pair) (f : MetaFault) → (Rose before after → ⊥) → a.grants ≡ b.grants → Sets u p.value a m → Refuses u before after b p f → ⊥
set_refused never key.Name before after a b m p f steady same s h = h
set_refused never key.Namespace before after a b m p f steady same s h = h
set_refused never key.RunAt before after a b m p f steady same s h = h.1 s.0 s.1
set_refused never key.Grant before after a b m p f steady same s h = elim h.1 [
  | inl none ↦ none s.0 s.1
  | inr bad ↦ bad.2 (subst (λ (gs : List Grant). Agrees gs bad.0) same (subst (Agrees a.grants) (one_grant s.0 bad.0 (sym s.1 ∙ bad.1)) s.2))
]
set_refused never key.Include before after a b m p f steady same s h = never kind.Glob (encode_utf8_all p.value) s.0 before after h.1.0 s.1 steady h.1.1 h.1.2
set_refused never key.Exclude before after a b m p f steady same s h = never kind.Glob (encode_utf8_all p.value) s.0 before after h.1.0 s.1 steady h.1.1 h.1.2
set_refused never key.Match before after a b m p f steady same s h = never kind.Pattern (encode_utf8_all p.value) s.0 before after h.1.0 s.1 steady h.1.1 h.1.2

taken_refused : NotRefused → (before after : ℕ) (a b m : Meta) (p : Pair) (f : MetaFault) → (Rose before after → ⊥) → a.grants ≡ b.grants → Takes a p m → FailsAt before after b p f → ⊥
taken_refused never before after a b m p f steady same t h = elim t [
  | inl used ↦ set_refused never h.key before after a b m p f steady same (subst (λ (u : Key). Sets u p.value a m) (one_key used.0 h.key (sym used.1 ∙ h.key_is)) used.2) h.refused
  | inr other ↦ other.0 h.key h.key_is
]

all_refused : OneRule → NotRefused → (ps : List Pair) (before after : ℕ) (a b m : Meta) (f : MetaFault) → (Rose before after → ⊥) → SameMeta a b → TakesAll ps a m → Fails before after ps b f → ⊥
all_refused one never [] before after a b m f steady same t h = h
all_refused one never (p ∷ ps) before after a b m f steady same t h = elim h [
  | inl here ↦ taken_refused never before after a b t.0 p f steady same.grants t.1 here
  | inr later ↦ all_refused one never ps before after t.0 later.0 m f steady (takes_same one a b t.0 later.0 p same t.1 later.1) t.2 later.2
]

refused_once : (u : Key) (b a c d : ℕ) (m n : Meta) (p : Pair) (f g : MetaFault) → Refuses u b a m p f → Refuses u c d n p g → f ≡ g
refused_once key.Name b a c d m n p f g h k = absurd h
refused_once key.Namespace b a c d m n p f g h k = absurd h
refused_once key.RunAt b a c d m n p f g h k = h.0 ∙ sym k.0
refused_once key.Grant b a c d m n p f g h k = h.0 ∙ sym k.0
refused_once key.Include b a c d m n p f g h k = h.0 ∙ sym k.0
refused_once key.Exclude b a c d m n p f g h k = h.0 ∙ sym k.0
refused_once key.Match b a c d m n p f g h k = h.0 ∙ sym k.0

line_once : (b a c d : ℕ) (m n : Meta) (p : Pair) (f g : MetaFault) → FailsAt b a m p f → FailsAt c d n p g → f ≡ g
line_once b a c d m n p f g h k = refused_once h.key b a c d m n p f g h.refused (subst (λ (u : Key). Refuses u c d n p g) (one_key k.key h.key (sym k.key_is ∙ h.key_is)) k.refused)

fails_once : OneRule → NotRefused → (ps : List Pair) (b a c d : ℕ) (m n : Meta) (f g : MetaFault) → (Rose b a → ⊥) → (Rose c d → ⊥) → SameMeta m n → Fails b a ps m f → Fails c d ps n g → f ≡ g
fails_once one never [] b a c d m n f g steady still same h k = absurd h
fails_once one never (p ∷ ps) b a c d m n f g steady still same h k = elim h [
  | inl here ↦ elim k [
    | inl there ↦ line_once b a c d m n p f g here there
    | inr later ↦ absurd (taken_refused never b a n m later.0 p f steady (sym same.grants) later.1 here)
  ]
  | inr after ↦ elim k [
    | inl there ↦ absurd (taken_refused never c d m n after.0 p g still same.grants after.1 there)
    | inr later ↦ fails_once one never ps b a c d after.0 later.0 f g steady still (takes_same one m n after.0 later.0 p same after.1 later.1) after.2 later.2
  ]
]

-- ---- causes

abbrev told_ok : {T E : Type 0} → Result T E → Bool
told_ok (Ok t) = true
told_ok (Err e) = false

abbrev fault_in : Result (List Pair) BlockFault → BlockFault
fault_in (Ok ps) = block.NoMemory
fault_in (Err e) = e

pairs_apart : (s : List ℕ) (ps : List Pair) (e : BlockFault) → e ≢ block.NoMemory → ReadsPairs s (Ok ps) → ReadsPairs s (Err e) → ⊥
pairs_apart s ps e known p q =
    true≢false (ap told_ok (one_way s (Ok ps) (Err e) (λ h. true≢false (ap told_ok h)) (λ h. known (ap fault_in h)) p q))

absent_once : (s : List ℕ) (e d : BlockFault) → e ≢ block.NoMemory → d ≢ block.NoMemory → ReadsPairs s (Err e) → ReadsPairs s (Err d) → e ≡ d
absent_once s e d known told p q = ap fault_in (one_way s (Err e) (Err d) (λ h. known (ap fault_in h)) (λ h. told (ap fault_in h)) p q)

abbrev fault_of : BlockFault → MetaFault
fault_of block.NoBlock = fault.NoBlock
fault_of block.NoEnd = fault.NoEnd
fault_of block.NoMemory = fault.NoMemory

record IsAbsent (s : List ℕ) (f : MetaFault) : Type 0 where
  cause : BlockFault
  known : cause ≢ block.NoMemory
  reads : ReadsPairs s (Err cause)
  is : f ≡ fault_of cause

abbrev Cause : ℕ → ℕ → List ℕ → MetaFault → Type 0
Cause before after s f = IsAbsent s f ⊎ (((f ≡ fault.NoName) × HasNoName s) ⊎ HasBadLine before after s f)

block_known : {A : Type 0} → block.NoBlock ≡ block.NoMemory → A
block_known e = absurd cc

end_known : {A : Type 0} → block.NoEnd ≡ block.NoMemory → A
end_known e = absurd cc

cause_of : (before after : ℕ) (s : List ℕ) (f : MetaFault) → f ≢ fault.NoMemory → FailsBlock before after s f → Cause before after s f
cause_of before after s fault.NoBlock known h = inl record { cause = block.NoBlock; known = λ e. block_known e; reads = h; is = refl }
cause_of before after s fault.NoEnd known h = inl record { cause = block.NoEnd; known = λ e. end_known e; reads = h; is = refl }
cause_of before after s fault.NoName known h = inr (inl (refl, h))
cause_of before after s (fault.BadRunAt line) known h = inr (inr h)
cause_of before after s (fault.BadGrant line) known h = inr (inr h)
cause_of before after s (fault.BadRule line) known h = inr (inr h)
cause_of before after s fault.NoMemory known h = absurd (known refl)

-- the pairs that are the same ones
taken_as : (s : List ℕ) (ps qs : List Pair) (a m : Meta) → ReadsPairs s (Ok ps) → ReadsPairs s (Ok qs) → TakesAll qs a m → TakesAll ps a m
taken_as s ps qs a m p q h = subst (λ (xs : List Pair). TakesAll xs a m) (one_reading s qs ps q p) h

-- ---- the laws

pub one_meta : OneRule → (s : List ℕ) (m n : Meta) → ReadsBlock s m → ReadsBlock s n → SameMeta m n
one_meta one s m n p q = all_same one p.pairs nothing nothing m n same_nothing p.taken (taken_as s p.pairs q.pairs nothing n p.pairs_are q.pairs_are q.taken)

bad_taken : OneRule → NotRefused → (s : List ℕ) (ps : List Pair) (m : Meta) (before after : ℕ) (f : MetaFault) → (Rose before after → ⊥) → ReadsPairs s (Ok ps) → TakesAll ps nothing m → HasBadLine before after s f → ⊥
bad_taken one never s ps m before after f steady reads taken bad =
    all_refused one never bad.pairs before after nothing nothing m f steady same_nothing (taken_as s bad.pairs ps nothing m bad.pairs_are reads taken) bad.fails

bad_once : OneRule → NotRefused → (s : List ℕ) (b a c d : ℕ) (f g : MetaFault) → (Rose b a → ⊥) → (Rose c d → ⊥) → HasBadLine b a s f → HasBadLine c d s g → f ≡ g
bad_once one never s b a c d f g steady still h k =
    fails_once one never h.pairs b a c d nothing nothing f g steady still same_nothing h.fails (subst (λ (ps : List Pair). Fails c d ps nothing g) (one_reading s k.pairs h.pairs k.pairs_are h.pairs_are) k.fails)

pub one_fault : OneRule → NotRefused → (s : List ℕ) (f g : MetaFault) → HasFault s f → HasFault s g → f ≡ g
one_fault one never s f g h k = elim (cause_of h.before h.after s f h.not_memory h.fails) [
  | inl none ↦ elim (cause_of k.before k.after s g k.not_memory k.fails) [
    | inl absent ↦ none.is ∙ (ap fault_of (absent_once s none.cause absent.cause none.known absent.known none.reads absent.reads) ∙ sym absent.is)
    | inr other ↦ elim other [
      | inl unnamed ↦ absurd (pairs_apart s unnamed.1.pairs none.cause none.known unnamed.1.pairs_are none.reads)
      | inr bad ↦ absurd (pairs_apart s bad.pairs none.cause none.known bad.pairs_are none.reads)
    ]
  ]
  | inr some ↦ elim some [
    | inl unnamed ↦ elim (cause_of k.before k.after s g k.not_memory k.fails) [
      | inl absent ↦ absurd (pairs_apart s unnamed.1.pairs absent.cause absent.known unnamed.1.pairs_are absent.reads)
      | inr other ↦ elim other [
        | inl nameless ↦ unnamed.0 ∙ sym nameless.0
        | inr bad ↦ absurd (bad_taken one never s unnamed.1.pairs unnamed.1.meta k.before k.after g k.not_size unnamed.1.pairs_are unnamed.1.taken bad)
      ]
    ]
    | inr bad ↦ elim (cause_of k.before k.after s g k.not_memory k.fails) [
      | inl absent ↦ absurd (pairs_apart s bad.pairs absent.cause absent.known bad.pairs_are absent.reads)
      | inr other ↦ elim other [
        | inl nameless ↦ absurd (bad_taken one never s nameless.1.pairs nameless.1.meta h.before h.after f h.not_size nameless.1.pairs_are nameless.1.taken bad)
        | inr worse ↦ bad_once one never s h.before h.after k.before k.after f g h.not_size k.not_size bad worse
      ]
    ]
  ]
]

pub not_both : OneRule → NotRefused → (s : List ℕ) (m : Meta) (f : MetaFault) → ReadsBlock s m → HasFault s f → ⊥
not_both one never s m f reads h = elim (cause_of h.before h.after s f h.not_memory h.fails) [
  | inl absent ↦ pairs_apart s reads.pairs absent.cause absent.known reads.pairs_are absent.reads
  | inr other ↦ elim other [
    | inl unnamed ↦
        reads.named ((all_same one reads.pairs nothing nothing m unnamed.1.meta same_nothing reads.taken (taken_as s reads.pairs unnamed.1.pairs nothing unnamed.1.meta reads.pairs_are unnamed.1.pairs_are unnamed.1.taken)).name ∙ unnamed.1.unnamed)
    | inr bad ↦ bad_taken one never s reads.pairs m h.before h.after f h.not_size reads.pairs_are reads.taken bad
  ]
]
