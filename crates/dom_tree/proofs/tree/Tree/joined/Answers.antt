use Rattle.std.proofs.Common.{rules, sym, ◌∙◌, ap, arith, subst, ◌≡◌, ◌<◌, ◌≤◌, ◌++◌, List, String}
use Rattle.std.specs.Prelude.{ℕ, [], length, encode_utf8_all, Result, Ok, Err}
use Rattle.std.specs.String.{string_bytes}
use Rattle.base_text.specs.declared.text.TheConstants.{TEXT_LIMIT}
use Rattle.base_text.specs.declared.text.TextFault.{TextFault}
use Rattle.dom_semantics.specs.Forest.{Forest, descendant_text, descendants_of, form_at, own_text}
use Rattle.dom_tree.specs.declared.form.NodeId.{NodeId}
use Rattle.dom_tree.specs.Folds.{MayFold, TryFolds}
use Rattle.dom_tree.specs.Ids.{node_id}
use Rattle.dom_tree.specs.Texts.{Gathers}
use Rattle.dom_tree.proofs.Gathered.{fits_err, fits_ok, gathers-folded, may-gather}
use Rattle.dom_tree.proofs.tree.Tree.joined.Goals as goal

may-joined : {Z : Type 0} (pre : String Z → NodeId → Type 0) (post : String Z → NodeId → Result (String Z) TextFault → Type 0) (f : Forest) (ns : List ℕ) (t : String Z) → length (string_bytes t) ≤ TEXT_LIMIT
    → ((u : String Z) (n : ℕ) → length (string_bytes u) ≤ TEXT_LIMIT → n < length f → pre u (node_id n))
    → ((u : String Z) (n : ℕ) (r : Result (String Z) TextFault) → length (string_bytes u) ≤ TEXT_LIMIT → n < length f → post u (node_id n) r → Gathers (λ x. string_bytes x) u r (own_text (form_at f n)))
    → MayFold pre post f t ns
may-joined pre post f ns t short may adds = may-gather (λ x. string_bytes x) pre post f (λ (n : ℕ). own_text (form_at f n)) ns t short may adds

pub try_fold_descendants-requires-clause-callable : goal.try_fold_descendants-requires-clause-callable
try_fold_descendants-requires-clause-callable c =
    let empty : string_bytes c.new-none.result ≡ [] = search rules in
    let short : length (string_bytes c.new-none.result) ≤ TEXT_LIMIT = let none = ap length empty in omega arith in
    search (rules, short, may-joined)

joined-folded : {Z : Type 0} (post : String Z → NodeId → Result (String Z) TextFault → Type 0) (f : Forest) (n : ℕ) (t : String Z) (r : Result (String Z) TextFault) → length (string_bytes t) ≤ TEXT_LIMIT
    → TryFolds post f t (descendants_of f n) r
    → ((u : String Z) (m : ℕ) (q : Result (String Z) TextFault) → length (string_bytes u) ≤ TEXT_LIMIT → m < length f → post u (node_id m) q → Gathers (λ x. string_bytes x) u q (own_text (form_at f m)))
    → Gathers (λ x. string_bytes x) t r (descendant_text f n)
joined-folded post f n t r short h adds = gathers-folded (λ x. string_bytes x) post f (λ (m : ℕ). own_text (form_at f m)) (descendants_of f n) t r short h adds

pub returns-in-Ok : goal.returns-in-Ok
returns-in-Ok c =
    let f = c.args.self.now in
    let text = descendant_text f c.args.node.0 in
    let empty : string_bytes c.new-none.result ≡ [] = search rules in
    let short : length (string_bytes c.new-none.result) ≤ TEXT_LIMIT = let none = ap length empty in omega arith in
    let h : Gathers (λ x. string_bytes x) c.new-none.result (Ok c.in-Ok.text) text = search (rules, short, c.in-Ok.ensures, joined-folded) in
    fits_ok c.deref.result.now text c.of.result (c.deref.ensures ∙ (h.ok ∙ ap (λ b. b ++ encode_utf8_all text) empty)) (subst (λ b. length b ≤ TEXT_LIMIT) (sym c.deref.ensures) h.within) c.of.ensures.ok c.of.ensures.too_long

pub returns-in-Err : goal.returns-in-Err
returns-in-Err c =
    let f = c.args.self.now in
    let empty : string_bytes c.new-none.result ≡ [] = search rules in
    let short : length (string_bytes c.new-none.result) ≤ TEXT_LIMIT = let none = ap length empty in omega arith in
    let h : Gathers (λ x. string_bytes x) c.new-none.result (Err c.in-Err.fault) (descendant_text f c.args.node.0) = search (rules, short, c.in-Err.ensures, joined-folded) in
    fits_err (λ t. string_bytes t) c.new-none.result c.in-Err.fault (descendant_text f c.args.node.0) empty h
