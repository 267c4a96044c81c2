use Rattle.shop_browse.proofs.subject_lists.SubjectList.write_page.Goals as goal

pub returns-in-New : goal.returns-in-New
returns-in-New c = rw c.in-New.is c.subject_page.ensures

pub returns-in-Best : goal.returns-in-Best
returns-in-Best c = rw c.in-Best.is c.subject_page-in-Best.ensures
