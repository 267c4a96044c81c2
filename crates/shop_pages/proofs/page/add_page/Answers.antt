use Rattle.std.proofs.Common.{◌≡◌, ◌++◌, List, ℕ, append_assoc}
use Rattle.std.proofs.lemmas.Result.{on_ok_weaker}
use Rattle.shop_model.specs.pages.PageText.{page_text}
use Rattle.shop_pages.proofs.page.add_page.Goals as goal

-- what is pushed in turn is pushed as one
joined : (old front middle end now tagged listed : List ℕ)
    → tagged ≡ old ++ front → listed ≡ tagged ++ middle → now ≡ listed ++ end
    → now ≡ old ++ (front ++ middle ++ end)
joined old front middle end now tagged listed is_tagged is_listed is_now =
    rw (is_now, is_listed, is_tagged, append_assoc old front middle, append_assoc old (front ++ middle) end)

pub returns-clause-ok : goal.returns-clause-ok
unfolding page_text
returns-clause-ok c =
    let blocks = rw c.as_slice.ensures at (c.in_ok-push_blocks.ensures).ok in
    on_ok_weaker c.push.result
    (λ pushed. joined _ _ _ _ _ _ _ (c.in_ok-push_tagged.ensures).ok blocks pushed)
    c.push.ensures.ok
