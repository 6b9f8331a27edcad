-- The requests that build nodes, in the order of the nodes' first bytes (DOM, Interfaces Document, Element and Node; the order is this project's own).
use Rattle.std.specs.Prelude.{ℕ, Bool, true, cond, ◌&&◌, ◌||◌, List, [], ◌∷◌, ◌++◌, Option, Some, None, map, codes, is_none, encode_utf8_all}
use Rattle.std.specs.Str.{bytes_eq, str_eq_ignore_ascii_case}
use Rattle.door.specs.declared.values.Kind.{Kind}
use Rattle.door.specs.declared.values.Kind.TheVariants.{Element, Str as StrKind, Comment}
use Rattle.door.specs.declared.values.Thing.{Thing}
use Rattle.door.specs.declared.values.Value.TheVariants.{Thing as ThingValue, Str}
use Rattle.door.specs.declared.values.TheConstants.{DOCUMENT}
use Rattle.door.specs.declared.members.Member.TheVariants.{DocumentCreateElement, DocumentCreateTextNode, DocumentCreateComment, ElementSetAttribute, NodeAppendChild}
use Rattle.door.specs.declared.requests.Request.{Request}
use Rattle.door.specs.declared.requests.Request.TheVariants.{Native}
use Rattle.page_text.specs.declared.tags.Attribute.{Attribute}
use Rattle.page_text.specs.declared.scan.Raw.{Raw}
use Rattle.page_text.specs.declared.scan.Raw.TheVariants.{Script, Style, Title, Textarea}

abbrev pub thing_of : Kind → ℕ → Thing
thing_of kind number = record { kind = kind; number = number }

abbrev pub the_document : Thing
the_document = DOCUMENT

abbrev pub appended : Thing → Thing → Request
appended parent child = Native NodeAppendChild parent (ThingValue child ∷ [])

-- a text is created and appended
abbrev pub text_writes : ℕ → Thing → List ℕ → List Request
text_writes number parent content = Native DocumentCreateTextNode the_document (Str content ∷ []) ∷ (appended parent (thing_of StrKind number) ∷ [])

-- a comment is created and appended
abbrev pub comment_writes : ℕ → Thing → List ℕ → List Request
comment_writes number parent content = Native DocumentCreateComment the_document (Str content ∷ []) ∷ (appended parent (thing_of Comment number) ∷ [])

abbrev pub attribute_write : ℕ → Attribute → Request
attribute_write number a = Native ElementSetAttribute (thing_of Element number) (Str a.name ∷ (Str a.value ∷ []))

-- an element is created, its attributes are set, and it is appended
abbrev pub element_writes : ℕ → Thing → List ℕ → List Attribute → List Request
element_writes number parent name attributes =
    Native DocumentCreateElement the_document (Str name ∷ []) ∷ (map (attribute_write number) attributes ++ appended parent (thing_of Element number) ∷ [])

-- a name of ASCII letters
abbrev pub is_named : List ℕ → List ℕ → Bool
is_named word name = bytes_eq (encode_utf8_all name) word

-- HTML, Void elements
abbrev pub is_void : List ℕ → Bool
is_void name =
    is_named (codes "area") name || (is_named (codes "base") name || (is_named (codes "br") name || (is_named (codes "col") name || (is_named (codes "embed") name || (is_named (codes "hr") name || (is_named (codes "img") name || (is_named (codes "input") name || (is_named (codes "link") name || (is_named (codes "meta") name || (is_named (codes "source") name || (is_named (codes "track") name || is_named (codes "wbr") name)))))))))))

-- HTML, Raw text elements and escapable raw text elements
abbrev pub raw_of : List ℕ → Option Raw
raw_of name =
    cond (is_named (codes "script") name) (Some Script)
    (cond (is_named (codes "style") name) (Some Style)
    (cond (is_named (codes "title") name) (Some Title)
    (cond (is_named (codes "textarea") name) (Some Textarea) None)))

-- the value of the attribute of this name
abbrev pub value_of : List ℕ → List Attribute → Option (List ℕ)
value_of word [] = None
value_of word (a ∷ attributes) = cond (is_named word a.name) (Some a.value) (value_of word attributes)

abbrev pub is_script_type : Option (List ℕ) → Bool
is_script_type None = true
is_script_type (Some t) =
    bytes_eq (encode_utf8_all t) [] || (str_eq_ignore_ascii_case (encode_utf8_all t) (codes "text/javascript") || str_eq_ignore_ascii_case (encode_utf8_all t) (codes "application/javascript"))

-- a script element of these attributes is run
abbrev pub is_runnable : List Attribute → Bool
is_runnable attributes = is_none (value_of (codes "src") attributes) && is_script_type (value_of (codes "type") attributes)
