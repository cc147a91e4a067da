-- A page's base and offset do not overflow; a fault keeps its cause and level, and the bytes, which are an image's.
use Rattle.paging.proofs.Pages.{page_is, page_base, page_pos, page_sum}
use Rattle.paging.proofs.Walking.{finish_page, finish_fault}
use borrow.Author.Rules.{rules}
use Rattle.paging.proofs.finish.Goals as goal

pub keep-requires : goal.keep-requires
keep-requires c = (search rules, (search page_is, search page_base))

pub nonzero_rem-value : goal.nonzero_rem-value
nonzero_rem-value c = search page_pos

pub overflow_add-value : goal.overflow_add-value
overflow_add-value c = search page_sum

pub returns-in-Page : goal.returns-in-Page
returns-in-Page c = search finish_page

pub returns-in-Fault : goal.returns-in-Fault
returns-in-Fault c = search finish_fault
