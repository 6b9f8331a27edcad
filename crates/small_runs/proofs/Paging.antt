-- The pieces of a page of the small form are written within the table of requests.
use Rattle.std.proofs.Common.{◌≡◌, ◌∙◌, ap, sym, refl, subst, ℕ, ◌+◌, ◌*◌, ◌≤◌, Bool, true, false, List, [], ◌∷◌, ◌++◌, arith, codes, length, length-append, map, slice_get, if◌then◌else◌, Some}
use Rattle.std.specs.List.{flat_map}
use Rattle.std.proofs.lemmas.List.{length-map, map-append}
use Rattle.door.specs.declared.values.Kind.{Kind}
use Rattle.door.specs.declared.values.Kind.TheVariants.{Document, Element, Str as StrKind}
use Rattle.door.specs.declared.requests.Request.{Request}
use Rattle.dom_semantics.specs.Changes.{is_empty}
use Rattle.small_eval.specs.Pieces.{after_blocks, after_script, block_writes, head_writes, pieces_from, pieces_of, script_writes}
use Rattle.small_forms.specs.declared.limits.TheConstants.{SMALL_PAGE_LIMIT}
use Rattle.small_forms.specs.declared.page.Page.{Page}
use Rattle.small_forms.specs.declared.page.PageScript.{PageScript}
use Rattle.small_forms.specs.Pages.{IsPage, blocks_text, element_text, texts_of_scripts}
use Rattle.solo_model.specs.Given.{are_cut}
use Rattle.small_runs.proofs.Building.{begins_all, few_after_all}
use Rattle.small_runs.proofs.Running.{Paged}
use Rattle.small_runs.proofs.Writes.{AreWrites, IsOwn, IsPlainTag, Write, Creates, Texts, Identifies, Appends, kinds_after, kinds_after_all, request_of, short_of}
use Rattle.small_runs.specs.SmallGiven.{piece_given}

-- ---- lists of writes

writes_append : (kinds : List Kind) (xs ys : List Write) → AreWrites kinds xs → AreWrites (kinds_after_all kinds xs) ys → AreWrites kinds (xs ++ ys)
writes_append kinds [] ys h k = k
writes_append kinds (x ∷ xs) ys h k = (h.0, writes_append (kinds_after kinds x) xs ys h.1 k)

after_append : (kinds : List Kind) (xs ys : List Write) → kinds_after_all kinds (xs ++ ys) ≡ kinds_after_all (kinds_after_all kinds xs) ys
after_append kinds [] ys = refl
after_append kinds (x ∷ xs) ys = after_append (kinds_after kinds x) xs ys

-- ---- tags

plain : (tag : List ℕ) → length tag ≤ SMALL_PAGE_LIMIT → Rattle.dom_semantics.specs.Names.is_tag tag ≡ true → Rattle.dom_semantics.specs.Names.lower tag ≡ tag → IsPlainTag tag
plain tag short good low = record { short = short_of tag short; good = good; low = low }

html : IsPlainTag (codes "html")
html = plain (codes "html") (omega arith) refl refl

head : IsPlainTag (codes "head")
head = plain (codes "head") (omega arith) refl refl

title_tag : IsPlainTag (codes "title")
title_tag = plain (codes "title") (omega arith) refl refl

body_tag : IsPlainTag (codes "body")
body_tag = plain (codes "body") (omega arith) refl refl

paragraph : IsPlainTag (codes "p")
paragraph = plain (codes "p") (omega arith) refl refl

division : IsPlainTag (codes "div")
division = plain (codes "div") (omega arith) refl refl

script_tag : IsPlainTag (codes "script")
script_tag = plain (codes "script") (omega arith) refl refl

-- ---- the head and the blocks

abbrev head_ws : List ℕ → List Write
head_ws title =
    Creates (codes "html") ∷ (Appends Document 0 Element 1 ∷ (Creates (codes "head") ∷ (Appends Element 1 Element 2 ∷ (Creates (codes "title") ∷ (Appends Element 2 Element 3
    ∷ (Texts title ∷ (Appends Element 3 StrKind 4 ∷ (Creates (codes "body") ∷ (Appends Element 1 Element 5 ∷ [])))))))))

abbrev block_ws : Bool → List Write
block_ws blocks =
    if blocks
    then Creates (codes "p") ∷ (Identifies 6 (codes "p") ∷ (Appends Element 5 Element 6 ∷ (Creates (codes "div") ∷ (Identifies 7 (codes "d") ∷ (Appends Element 5 Element 7 ∷ [])))))
    else []

abbrev begun_ws : List ℕ → Bool → List Write
begun_ws title blocks = head_ws title ++ block_ws blocks

begun_told : (title : List ℕ) (blocks : Bool) → head_writes title ++ block_writes blocks ≡ map request_of (begun_ws title blocks)
begun_told title true = refl
begun_told title false = refl

own : (kinds : List Kind) (kind : Kind) (n : ℕ) → Rattle.dom_semantics.specs.Things.is_node_kind kind ≡ true → slice_get kinds n ≡ Some kind → IsOwn kinds kind n
own kinds kind n node there = record { node = node; there = there }

head_are : (title : List ℕ) → length title ≤ SMALL_PAGE_LIMIT → AreWrites (Document ∷ []) (head_ws title)
head_are title short =
    (html, ((own _ Document 0 refl refl, own _ Element 1 refl refl), (head, ((own _ Element 1 refl refl, own _ Element 2 refl refl), (title_tag, ((own _ Element 2 refl refl, own _ Element 3 refl refl), (short_of title short, ((own _ Element 3 refl refl, own _ StrKind 4 refl refl), (body_tag, ((own _ Element 1 refl refl, own _ Element 5 refl refl), tt))))))))))

begun_are : (title : List ℕ) (blocks : Bool) → length title ≤ SMALL_PAGE_LIMIT → AreWrites (Document ∷ []) (begun_ws title blocks)
begun_are title false short = writes_append (Document ∷ []) (head_ws title) [] (head_are title short) tt
begun_are title true short =
    writes_append (Document ∷ []) (head_ws title) (block_ws true) (head_are title short)
    (paragraph, ((own _ Element 6 refl refl, short_of (codes "p") (omega arith)), ((own _ Element 5 refl refl, own _ Element 6 refl refl), (division, ((own _ Element 7 refl refl, short_of (codes "d") (omega arith)), ((own _ Element 5 refl refl, own _ Element 7 refl refl), tt))))))

begun_many : (title : List ℕ) (blocks : Bool) → length (kinds_after_all (Document ∷ []) (begun_ws title blocks)) ≡ after_blocks blocks
begun_many title true = refl
begun_many title false = refl

-- the body is the page's own node 5
abbrev HasBody : List Kind → Type 0
HasBody kinds = slice_get kinds 5 ≡ Some Element

begun_body : (title : List ℕ) (blocks : Bool) → HasBody (kinds_after_all (Document ∷ []) (begun_ws title blocks))
begun_body title true = refl
begun_body title false = refl

-- ---- a script element

abbrev text_ws : ℕ → List ℕ → List Write
text_ws n text = if is_empty text then [] else Texts text ∷ (Appends Element n StrKind (n + 1) ∷ [])

abbrev script_ws : ℕ → List ℕ → List Write
script_ws n text = Creates (codes "script") ∷ (Appends Element 5 Element n ∷ text_ws n text)

script_told : (n : ℕ) (text : List ℕ) → script_writes n text ≡ map request_of (script_ws n text)
script_told n [] = refl
script_told n (c ∷ text) = refl

got_front : (kinds more : List Kind) (n : ℕ) (kind : Kind) → slice_get kinds n ≡ Some kind → slice_get (kinds ++ more) n ≡ Some kind
got_front [] more n kind e = absurd cc
got_front (k ∷ kinds) more Prim.Native.Nat.zero kind e = e
got_front (k ∷ kinds) more (Prim.Native.Nat.suc n) kind e = got_front kinds more n kind e

got_new : (kinds : List Kind) (kind : Kind) (n : ℕ) → length kinds ≡ n → slice_get (kinds ++ kind ∷ []) n ≡ Some kind
got_new kinds kind n e = ap (slice_get (kinds ++ kind ∷ [])) (sym e) ∙ Rattle.small_runs.proofs.Building.got_behind kinds kind []

next_long : (kinds : List Kind) (kind : Kind) (n : ℕ) → length kinds ≡ n → length (kinds ++ kind ∷ []) ≡ n + 1
next_long kinds kind n e = length-append kinds (kind ∷ []) ∙ ap (λ k. k + 1) e

script_are : (kinds : List Kind) (n : ℕ) (text : List ℕ) → length kinds ≡ n → HasBody kinds → length text ≤ SMALL_PAGE_LIMIT → AreWrites kinds (script_ws n text)
script_are kinds n [] long body short = (script_tag, ((own _ Element 5 refl (got_front kinds _ 5 Element body), own _ Element n refl (got_new kinds Element n long)), tt))
script_are kinds n (c ∷ text) long body short =
    let one : List Kind = kinds ++ Element ∷ [] in
    let first : slice_get one n ≡ Some Element = got_new kinds Element n long in
    (script_tag, ((own one Element 5 refl (got_front kinds _ 5 Element body), own one Element n refl first), (short_of (c ∷ text) short, ((own (one ++ StrKind ∷ []) Element n refl (got_front one _ n Element first), own (one ++ StrKind ∷ []) StrKind (n + 1) refl (got_new one StrKind (n + 1) (next_long kinds Element n long))), tt))))

script_many : (kinds : List Kind) (n : ℕ) (text : List ℕ) → length kinds ≡ n → length (kinds_after_all kinds (script_ws n text)) ≡ after_script n text
script_many kinds n [] long = next_long kinds Element n long
script_many kinds n (c ∷ text) long = next_long (kinds ++ Element ∷ []) StrKind (n + 1) (next_long kinds Element n long) ∙ two n
  where
    two : (k : ℕ) → k + 1 + 1 ≡ k + 2
    two k = omega arith

script_body : (kinds : List Kind) (n : ℕ) (text : List ℕ) → HasBody kinds → HasBody (kinds_after_all kinds (script_ws n text))
script_body kinds n [] body = got_front kinds _ 5 Element body
script_body kinds n (c ∷ text) body = got_front (kinds ++ Element ∷ []) _ 5 Element (got_front kinds _ 5 Element body)

script_few : (n : ℕ) (text : List ℕ) → length (script_ws n text) ≤ 4
script_few n [] = omega arith
script_few n (c ∷ text) = omega arith

-- ---- pieces

-- each of these texts is no longer than a page
abbrev pub AreShort : List (List ℕ) → Type 0
AreShort [] = Unit {0}
AreShort (text ∷ texts) = (length text ≤ SMALL_PAGE_LIMIT) × AreShort texts

paged_from : (kinds : List Kind) (ws : List Write) (n : ℕ) (texts : List (List ℕ)) → AreWrites kinds ws → length (kinds_after_all kinds ws) ≡ n → HasBody (kinds_after_all kinds ws)
    → AreShort texts → length kinds + length ws + 8 * length texts ≤ 1000 → Paged kinds (pieces_from n (map request_of ws) texts)
paged_from kinds ws n [] are long body short few = (ws, refl, are, omega (arith, few), tt)
paged_from kinds ws n (text ∷ texts) are long body short few =
    let own_ws : List Write = ws ++ script_ws n text in
    let told : map request_of ws ++ script_writes n text ≡ map request_of own_ws = ap (λ rs. map request_of ws ++ rs) (script_told n text) ∙ sym (map-append request_of ws (script_ws n text)) in
    let all : AreWrites kinds own_ws = writes_append kinds ws (script_ws n text) are (script_are (kinds_after_all kinds ws) n text long body short.0) in
    let many : length own_ws ≡ length ws + length (script_ws n text) = length-append ws (script_ws n text) in
    let P : List Kind → Type 0 = λ ks. Paged ks (pieces_from (after_script n text) [] texts) in
    let more : List Kind = kinds_after_all (kinds_after_all kinds ws) (script_ws n text) in
    let few_kinds : length more ≤ length kinds + length ws + 4 = omega (arith, few_after_all (kinds_after_all kinds ws) (script_ws n text), few_after_all kinds ws, script_few n text) in (
      own_ws,
      told,
      all,
      omega (arith, few, many, script_few n text),
      subst P (sym (after_append kinds ws (script_ws n text)))
          (paged_from more [] (after_script n text) texts tt (script_many (kinds_after_all kinds ws) n text long) (script_body (kinds_after_all kinds ws) n text body) short.1 (omega (arith, few, few_kinds))),
    )

-- ---- a page

texts_short : (scripts : List PageScript) (most : ℕ) → most ≤ SMALL_PAGE_LIMIT → length (flat_map element_text scripts) ≤ most → AreShort (texts_of_scripts scripts)
texts_short [] most small h = tt
texts_short (script ∷ scripts) most small h =
    let whole = length-append (element_text script) (flat_map element_text scripts) in
    let opened = length-append (codes "<script>") (script.text ++ codes "</script>") in
    let closed = length-append script.text (codes "</script>") in
    (omega (arith, small, h, whole, opened, closed), texts_short scripts most small (omega (arith, h, whole)))

-- no text of a page is longer than the page
pub record PageTexts (page : Page) : Type 0 where
  pub title : length page.title ≤ SMALL_PAGE_LIMIT
  pub scripts : AreShort (texts_of_scripts page.scripts)

pub page_texts_short : (bytes : List ℕ) (page : Page) → IsPage bytes page → PageTexts page
page_texts_short bytes page h =
    let elements = flat_map element_text page.scripts in
    let last = length-append elements (codes "</body></html>") in
    let blocks = length-append (blocks_text page.blocks) (elements ++ codes "</body></html>") in
    let body = length-append (codes "</title></head><body>") (blocks_text page.blocks ++ (elements ++ codes "</body></html>")) in
    let title = length-append page.title (codes "</title></head><body>" ++ (blocks_text page.blocks ++ (elements ++ codes "</body></html>"))) in
    let head = length-append (codes "<html><head><title>") (page.title ++ (codes "</title></head><body>" ++ (blocks_text page.blocks ++ (elements ++ codes "</body></html>")))) in
    record {
      title = omega (arith, h.short, ap length h.whole, last, blocks, body, title, head);
      scripts = texts_short page.scripts SMALL_PAGE_LIMIT (omega arith) (omega (arith, h.short, ap length h.whole, last, blocks, body, title, head));
    }

begun_few : (title : List ℕ) (blocks : Bool) → length (begun_ws title blocks) ≤ 16
begun_few title true = omega arith
begun_few title false = omega arith

pub page_paged : (bytes : List ℕ) (page : Page) → IsPage bytes page → Paged (Document ∷ []) (pieces_of page)
page_paged bytes page h =
    let texts = page_texts_short bytes page h in
    let ws : List Write = begun_ws page.title page.blocks in
    let P : List Request → Type 0 = λ rs. Paged (Document ∷ []) (pieces_from (after_blocks page.blocks) rs (texts_of_scripts page.scripts)) in
    let many : length (texts_of_scripts page.scripts) ≡ length page.scripts = length-map page.scripts (λ (script : PageScript). script.text) in
    subst P (sym (begun_told page.title page.blocks))
    (paged_from (Document ∷ []) ws (after_blocks page.blocks) (texts_of_scripts page.scripts) (begun_are page.title page.blocks texts.title) (begun_many page.title page.blocks)
    (begun_body page.title page.blocks) texts.scripts (omega (arith, many, h.few, begun_few page.title page.blocks)))

-- it is cut at its scripts
cut_from : (n : ℕ) (begun : List Request) (texts : List (List ℕ)) → are_cut (map piece_given (pieces_from n begun texts)) ≡ true
cut_from n begun [] = refl
cut_from n begun (text ∷ []) = refl
cut_from n begun (text ∷ (next ∷ texts)) = cut_from (after_script n text) [] (next ∷ texts)

pub page_cut : (page : Page) → are_cut (map piece_given (pieces_of page)) ≡ true
page_cut page = cut_from (after_blocks page.blocks) (head_writes page.title ++ block_writes page.blocks) (texts_of_scripts page.scripts)

pub pieces_few : (n : ℕ) (begun : List Request) (texts : List (List ℕ)) → length (pieces_from n begun texts) ≡ length texts + 1
pieces_few n begun [] = refl
pieces_few n begun (text ∷ texts) = omega (arith, pieces_few (after_script n text) [] texts)
