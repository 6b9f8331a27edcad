use Rattle.std.proofs.Common.{refl}
use Rattle.page_text.proofs.PageValues.{read_once}
use Rattle.page_text.proofs.PageTagParts.{attribute_once}
use Rattle.page_text.proofs.PageTagsOnce.{start_tag_once, end_tag_once, comment_once, doctype_once}
use Rattle.page_text.proofs.PageDocumentsOnce.{document_once}
use Rattle.page_text.proofs.PageNodesOnce.{content_once}
use Rattle.page_text.proofs.facts.parts_of_a_page_have_one_reading.Goals as goal

pub returns-clause-bytes : goal.returns-clause-bytes
returns-clause-bytes c = λ entities raw read other a b. read_once entities raw raw read other refl a b

pub returns-clause-attribute : goal.returns-clause-attribute
returns-clause-attribute c = λ text rest last a b x y. attribute_once text text rest last a b refl x y

pub returns-clause-start_tag : goal.returns-clause-start_tag
returns-clause-start_tag c = λ text rest last t u a b. start_tag_once text text rest last t u refl a b

pub returns-clause-end_tag : goal.returns-clause-end_tag
returns-clause-end_tag c = λ text name other rest last a b. end_tag_once text text name other rest last refl a b

pub returns-clause-comment : goal.returns-clause-comment
returns-clause-comment c = λ text content other rest last a b. comment_once text text content other rest last refl a b

pub returns-clause-doctype : goal.returns-clause-doctype
returns-clause-doctype c = λ text rest last a b. doctype_once text text rest last refl a b

pub returns-clause-nodes : goal.returns-clause-nodes
returns-clause-nodes c = λ depth number text rest last name other behind later read others a end b close.
    content_once depth number text rest last name other behind later read others a end b close

pub returns-clause-document : goal.returns-clause-document
returns-clause-document c = document_once
