use Rattle.page_text.proofs.Spelling.{attribute_ok, attribute_again, end_ok, end_again}
use Rattle.page_text.proofs.TagSpelling.{attributes_ok, attributes_again, comment_ok, comment_again}
use Rattle.page_text.proofs.tags.tags_are_spelled_so.Goals as goal

pub returns-clause-attribute : goal.returns-clause-attribute
returns-clause-attribute c = attribute_ok

pub returns-clause-attribute_again : goal.returns-clause-attribute_again
returns-clause-attribute_again c = attribute_again

pub returns-clause-end_tag : goal.returns-clause-end_tag
returns-clause-end_tag c = end_ok

pub returns-clause-end_tag_again : goal.returns-clause-end_tag_again
returns-clause-end_tag_again c = end_again

pub returns-clause-attributes : goal.returns-clause-attributes
returns-clause-attributes c = attributes_ok

pub returns-clause-attributes_again : goal.returns-clause-attributes_again
returns-clause-attributes_again c = attributes_again

pub returns-clause-comment : goal.returns-clause-comment
returns-clause-comment c = comment_ok

pub returns-clause-comment_again : goal.returns-clause-comment_again
returns-clause-comment_again c = comment_again
