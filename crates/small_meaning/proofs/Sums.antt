-- Parts and their sums do alike.
use Rattle.std.proofs.Common.{◌≡◌, refl, sym, subst, ℕ, ◌+◌, ◌*◌, ◌≤◌, suc, zero, Bool, true, false, List, [], ◌∷◌, ◌++◌, length, arith, codes, if◌then◌else◌, nat_lt, nat_le}
use Rattle.std.proofs.lemmas.Bool.Decides.{nat_tests}
use Rattle.std.specs.Fmt.{decimal}
use Rattle.std.specs.Prelude.{pos, Ok, Err, ◌-◌, ◌^◌}
use Rattle.base_text.specs.Scalars.{utf8_len}
use Rattle.base_text.specs.declared.operators.BinaryOp.TheVariants as operator
use Rattle.base_text.specs.declared.text.TheConstants.{TEXT_LIMIT}
use Rattle.base_text.proofs.Utf8.{utf8_len-append}
use Rattle.door.specs.declared.values.Thing.{Thing as DoorThing}
use Rattle.door.specs.declared.values.Kind.TheVariants.{Document}
use Rattle.door.specs.declared.members.Member.TheVariants.{WindowDocument, DocumentTitle}
use Rattle.door.specs.declared.requests.ErrorKind.TheVariants as kind
use Rattle.door.specs.declared.requests.Request.TheVariants.{Native as NativeRequest}
use Rattle.js_syntax.specs.declared.tree.Expr.{Expr}
use Rattle.js_syntax.specs.declared.tree.Expr.TheVariants as ex
use Rattle.js_syntax.specs.declared.tree.Expr.TheOpen as o
use Rattle.js_ops.specs.Operators.{joined}
use Rattle.small_forms.specs.declared.script.Part.{Part}
use Rattle.small_forms.specs.declared.script.Part.TheVariants.{Title, Number, Quoted}
use Rattle.small_forms.specs.declared.script.Sum.{Sum}
use Rattle.js_semantics.specs.Evaluator.{Gives, bind, text_units}
use Rattle.js_semantics.specs.Evaluator as ev
use Rattle.js_semantics.specs.Intrinsics.{Setup}
use Rattle.js_semantics.specs.Machine.{Machine, Refers, Thing, text}
use Rattle.js_semantics.specs.Meaning.{evaluator, at_top}
use Rattle.js_semantics.specs.Operations.{answer_row, binary_row}
use Rattle.js_semantics.specs.Primitives as prim
use Rattle.js_semantics.specs.Solo.{Program}
use Rattle.js_semantics.specs.Targets.{read_target_row, ToMember}
use Rattle.small_meaning.specs.declared.prim.Prim.{Prim}
use Rattle.small_meaning.specs.declared.prim.Prim.TheVariants.{Number as NumberPrim, Str as StrPrim}
use Rattle.small_meaning.specs.Rows.{Bare, Addition, Lone, Plus}
use Rattle.small_meaning.specs.Rows as small
use Rattle.solo_model.specs.Things.{thing_of, the_window}
use Rattle.small_scripts.specs.Trees.{added, part_expr, sum_expr}
use Rattle.small_meaning.specs.Shows.{IsText}
use Rattle.small_meaning.proofs.Alike.{Alike, Ready, Stops, ready_later, stops_later}
use Rattle.small_meaning.proofs.Charges.{charge_alike}
use Rattle.small_meaning.proofs.Documents.{document_asked, refused_alike}
use Rattle.small_meaning.proofs.Forms.{binary_form, expr_charged, member_form, name_form, number_form, text_form}
use Rattle.small_meaning.proofs.Lookups.{Begins, three}
use Rattle.small_meaning.proofs.Texts.{AreSound, IsSound, IsSoundSum}
use Rattle.small_meaning.proofs.Titles.{IsWithin, title_asked, value_of}

-- what follows a value does alike, of numbers up to a bound and texts of the language
abbrev pub GivesAlike : Setup → ℕ → Bool → ℕ → small.Cont → ev.Cont → Type 0
GivesAlike setup k least most c d =
    (value : Prim) (m : Machine) (left : ℕ) → IsWithin most value → Ready setup least (suc k) m → Alike setup k (c (small.Gives value) left) (d (Gives (value_of value)) m left)

-- ---- parts

-- the name `document`
pub document_alike : (setup : Setup) (k : ℕ) (least : Bool) (n : ℕ) (next : DoorThing → ℕ → Program Bare) (c : small.Cont) (d : ev.Cont) (m : Machine) (f : ℕ) → Begins setup → Stops setup k least c d → Ready setup least (suc k) m
    → ((m : Machine) (left : ℕ) → Ready setup true (suc k) m → Alike setup k (next (thing_of Document 1) left) (d (Gives (Refers (Thing 1))) m left))
    → Alike setup k (small.document_row next c f) ((evaluator (suc (suc n))).expr (ex.Name (codes "document")) at_top m f d)
document_alike setup k least n next c d m f b s r h =
    expr_charged setup k least (suc n) (ex.Name (codes "document")) (o.Name (codes "document")) (small.ask (NativeRequest WindowDocument the_window []) (small.with_document next) c) c d m f (name_form (codes "document")) s r
    (λ left. document_asked setup k least n next c d m left b s r h)

part_alike : (setup : Setup) (k : ℕ) (least : Bool) (n : ℕ) (part : Part) (c : small.Cont) (d : ev.Cont) (m : Machine) (f : ℕ) → IsSound part → Begins setup → Stops setup k least c d → Ready setup least (suc k) m → GivesAlike setup k least 999 c d
    → Alike setup k (small.part_row part c f) ((evaluator (suc (suc (suc n)))).expr (part_expr part) at_top m f d)
part_alike setup k least n (Number v) c d m f h b s r g =
    expr_charged setup k least (suc (suc n)) (ex.Number (pos v)) (o.Number (pos v)) (c (small.Gives (NumberPrim v))) c d m f (number_form (pos v)) s r (λ left. g (NumberPrim v) m left h r)
part_alike setup k least n (Quoted t) c d m f h b s r g =
    expr_charged setup k least (suc (suc n)) (ex.Str t) (o.Str t) (c (small.Gives (StrPrim t))) c d m f (text_form t) s r (λ left. g (StrPrim t) m left h r)
part_alike setup k least n Title c d m f h b s r g =
    let then_title : DoorThing → ℕ → Program Bare = λ document. small.ask (NativeRequest DocumentTitle document []) (small.with_text (λ t. c (small.Gives (StrPrim t))) c) c in
    let reads : ev.Cont = bind (λ base m f. read_target_row (evaluator (suc (suc n))) (ToMember base (codes "title")) at_top m f d) d in
    expr_charged setup k least (suc (suc n)) (ex.Member (ex.Name (codes "document")) (codes "title")) (o.Member (ex.Name (codes "document")) (codes "title")) (small.document_row then_title c) c d m f
    (member_form (ex.Name (codes "document")) (codes "title")) s r
    (λ left. document_alike setup k least n then_title c reads m left b (record { throws = s.throws; halts = s.halts }) r
    (λ m left r. title_asked setup k (suc n) (λ t. c (small.Gives (StrPrim t))) c d m left b (stops_later setup k least c d s) r
    (λ t short left. g (StrPrim t) m left short (ready_later setup least (suc k) m r))))

part_in : (setup : Setup) (k : ℕ) (least : Bool) (n : ℕ) (part : Part) (c : small.Cont) (d : ev.Cont) (m : Machine) (f : ℕ) → 3 ≤ n → IsSound part → Begins setup → Stops setup k least c d → Ready setup least (suc k) m → GivesAlike setup k least 999 c d
    → Alike setup k (small.part_row part c f) ((evaluator n).expr (part_expr part) at_top m f d)
part_in setup k least n part c d m f deep h b s r g =
    let chain = three n deep in
    let P : ℕ → Type 0 = λ n. Alike setup k (small.part_row part c f) ((evaluator n).expr (part_expr part) at_top m f d) in
    subst P (sym chain.1) (part_alike setup k least chain.0 part c d m f h b s r g)

-- ---- `+`

joined_alike : (setup : Setup) (k : ℕ) (least : Bool) (most : ℕ) (x y : List ℕ) (c : small.Cont) (d : ev.Cont) (m : Machine) (f : ℕ) → Stops setup k least c d → Ready setup least (suc k) m → GivesAlike setup k least most c d
    → Alike setup k (small.joined_row (x ++ y) c f) (answer_row (joined x y) m f d)
joined_alike setup k least most x y c d m f s r g =
    let P : ℕ → Type 0 = λ n. Alike setup k (small.joined_row (x ++ y) c f) (answer_row (if nat_lt TEXT_LIMIT n then Err prim.TooLong else Ok (prim.StrPrim (x ++ y))) m f d) in
    subst P (utf8_len-append x y) (go (nat_lt TEXT_LIMIT (utf8_len (x ++ y))) refl)
  where
    go : (over : Bool) → nat_lt TEXT_LIMIT (utf8_len (x ++ y)) ≡ over
        → Alike setup k (if over then c (small.Throws kind.TooLong) f else small.charge (text_units (x ++ y)) (c (small.Gives (StrPrim (x ++ y)))) c f) (answer_row (if over then Err prim.TooLong else Ok (prim.StrPrim (x ++ y))) m f d)
    go true e = refused_alike setup k least c d kind.TooLong m f tt s r
    go false e =
        let short : IsText (x ++ y) = grind (arith, nat_tests) in
        charge_alike setup k least (text_units (x ++ y)) (c (small.Gives (StrPrim (x ++ y)))) c (d (Gives (text (x ++ y)))) d m f s r (λ left. g (StrPrim (x ++ y)) m left short r)

plus_alike : (setup : Setup) (k : ℕ) (least : Bool) (most : ℕ) (x y : Prim) (c : small.Cont) (d : ev.Cont) (m : Machine) (f : ℕ) → IsWithin most x → IsWithin 999 y → most + 999 ≤ 9999 → Stops setup k least c d → Ready setup least (suc k) m
    → GivesAlike setup k least (most + 999) c d → Alike setup k (small.plus_row x y c f) (binary_row operator.Add (value_of x) (value_of y) m f d)
plus_alike setup k least most (NumberPrim a) (NumberPrim b) c d m f p q low s r g =
    let fits : nat_le (a + b) (2 ^ 53 - 1) ≡ true = grind (arith, nat_tests) in
    let P : Bool → Type 0 = λ within. Alike setup k (c (small.Gives (NumberPrim (a + b))) f) (answer_row (if within then Ok (prim.NumberPrim (pos (a + b))) else Err prim.Range) m f d) in
    subst P (sym fits) (g (NumberPrim (a + b)) m f (omega (arith, p, q)) r)
plus_alike setup k least most (NumberPrim a) (StrPrim y) c d m f p q low s r g = joined_alike setup k least (most + 999) (decimal a) y c d m f s r g
plus_alike setup k least most (StrPrim x) (NumberPrim b) c d m f p q low s r g = joined_alike setup k least (most + 999) x (decimal b) c d m f s r g
plus_alike setup k least most (StrPrim x) (StrPrim y) c d m f p q low s r g = joined_alike setup k least (most + 999) x y c d m f s r g

-- ---- sums

abbrev addition_expr : Addition → Expr
addition_expr (Lone part) = part_expr part
addition_expr (Plus left part) = ex.Binary operator.Add (addition_expr left) (part_expr part)

abbrev depth : Addition → ℕ
depth (Lone part) = 0
depth (Plus left part) = suc (depth left)

-- what a sum of numbers is at most
abbrev most_of : Addition → ℕ
most_of (Lone part) = 999
most_of (Plus left part) = most_of left + 999

abbrev IsSoundIn : Addition → Type 0
IsSoundIn (Lone part) = IsSound part
IsSoundIn (Plus left part) = IsSoundIn left × IsSound part

addition_alike : (setup : Setup) (k : ℕ) (least : Bool) (a : Addition) (n : ℕ) (c : small.Cont) (d : ev.Cont) (m : Machine) (f : ℕ) → depth a + 3 ≤ n → most_of a ≤ 9999 → IsSoundIn a → Begins setup → Stops setup k least c d → Ready setup least (suc k) m
    → GivesAlike setup k least (most_of a) c d → Alike setup k (small.addition_row a c f) ((evaluator n).expr (addition_expr a) at_top m f d)
unfolding small.addition_row
addition_alike setup k least (Lone part) n c d m f deep low h b s r g = part_in setup k least n part c d m f (omega (arith, deep)) h b s r g
addition_alike setup k least (Plus left part) zero c d m f deep low h b s r g = absurd (omega (arith, deep))
addition_alike setup k least (Plus left part) (suc n) c d m f deep low h b s r g =
    let after : Prim → small.Cont = λ x. small.bind (λ y. small.plus_row x y c) c in
    let right : Prim → ℕ → Program Bare = λ x. small.part_row part (after x) in
    let so : small.Cont = small.bind right c in
    let plus : ev.Cont = bind (λ x m f. (evaluator n).expr (part_expr part) at_top m f (bind (λ y m f. binary_row operator.Add x y m f d) d)) d in
    expr_charged setup k least n (ex.Binary operator.Add (addition_expr left) (part_expr part)) (o.Binary operator.Add (addition_expr left) (part_expr part)) (small.addition_row left so) c d m f
    (binary_form operator.Add (addition_expr left) (part_expr part)) s r
    (λ f. addition_alike setup k least left n so plus m f (omega (arith, deep)) (omega (arith, low)) h.0 b (record { throws = s.throws; halts = s.halts }) r
    (λ x m f p r. part_in setup k least n part (after x) (bind (λ y m f. binary_row operator.Add (value_of x) y m f d) d) m f (omega (arith, deep)) h.1 b (record { throws = s.throws; halts = s.halts }) r
    (λ y m f q r. plus_alike setup k least (most_of left) x y c d m f p q low s r g)))

-- a sum is the additions of its parts
added_expr : (a : Addition) (parts : List Part) → added (addition_expr a) parts ≡ addition_expr (small.added a parts)
added_expr a [] = refl
added_expr a (part ∷ parts) = added_expr (Plus a part) parts

added_depth : (a : Addition) (parts : List Part) → depth (small.added a parts) ≡ depth a + length parts
added_depth a [] = omega arith
added_depth a (part ∷ parts) = omega (arith, added_depth (Plus a part) parts)

added_most : (a : Addition) (parts : List Part) → most_of (small.added a parts) ≡ most_of a + 999 * length parts
added_most a [] = omega arith
added_most a (part ∷ parts) = omega (arith, added_most (Plus a part) parts)

added_sound : (a : Addition) (parts : List Part) → IsSoundIn a → AreSound parts → IsSoundIn (small.added a parts)
added_sound a [] h hs = h
added_sound a (part ∷ parts) h hs = added_sound (Plus a part) parts (h, hs.0) hs.1

within_less : (a b : ℕ) (value : Prim) → a ≤ b → IsWithin a value → IsWithin b value
within_less a b (NumberPrim n) low h = omega (arith, low, h)
within_less a b (StrPrim t) low h = h

pub sum_alike : (setup : Setup) (k : ℕ) (least : Bool) (sum : Sum) (n : ℕ) (c : small.Cont) (d : ev.Cont) (m : Machine) (f : ℕ) → 10 ≤ n → IsSoundSum sum → Begins setup → Stops setup k least c d → Ready setup least (suc k) m
    → GivesAlike setup k least 9999 c d → Alike setup k (small.sum_row sum c f) ((evaluator n).expr (sum_expr sum) at_top m f d)
sum_alike setup k least sum n c d m f deep h b s r g =
    let whole = small.added (Lone sum.first) sum.more in
    let most : most_of whole ≤ 9999 = omega (arith, added_most (Lone sum.first) sum.more, h.few) in
    let low : depth whole + 3 ≤ n = omega (arith, added_depth (Lone sum.first) sum.more, h.few, deep) in
    let P : Expr → Type 0 = λ e. Alike setup k (small.sum_row sum c f) ((evaluator n).expr e at_top m f d) in
    subst P (sym (added_expr (Lone sum.first) sum.more))
    (addition_alike setup k least whole n c d m f low most (added_sound (Lone sum.first) sum.more h.first h.more) b s r (λ value m left p r. g value m left (within_less (most_of whole) 9999 value most p) r))
