-- The bytes of replies (RFC 9112).
use Rattle.std.specs.Prelude.{◌==◌, ℕ, List, [], ◌++◌, length, codes, decimal, unwrap_or, if◌then◌else◌}
use Rattle.http.specs.StatusCode.{reason_phrase}
use Rattle.shop_model.specs.declared.page.Page.{Page}
use Rattle.shop_model.specs.pages.PageText.{page_text}
use Rattle.shop_pages.specs.declared.reply.Form.{Form}

-- the reason phrase of a status; none where the status has no name
unfoldable pub phrase_of : ℕ → List ℕ
phrase_of status = unwrap_or (reason_phrase status) []

-- the first line of a reply with this status
unfoldable pub status_line : ℕ → List ℕ
status_line status =
    codes "HTTP/1.1 " ++ decimal status ++ codes " " ++ phrase_of status ++ codes "\r\n"

-- the methods that are served, where another one was asked for
abbrev pub allow_line : ℕ → List ℕ
allow_line status = if status == 405 then codes "Allow: GET, POST\r\n" else []

-- whether the connection ends
abbrev pub close_line : Form → List ℕ
close_line form = if form.close then codes "Connection: close\r\n" else []

-- the lines of a reply around a page of so many bytes
unfoldable pub reply_head : ℕ → ℕ → Form → List ℕ
reply_head status len form =
    status_line status ++ codes "Content-Type: text/html; charset=utf-8\r\nContent-Length: "
    ++ decimal len ++ codes "\r\n" ++ allow_line status ++ close_line form ++ codes "\r\n"

-- the page's text, unless it is left out
abbrev pub body_of : List ℕ → Form → List ℕ
body_of text form = if form.bodiless then [] else text

-- the reply with a page
unfoldable pub reply : Page → Form → List ℕ
reply page form =
    reply_head page.status (length (page_text page)) form ++ body_of (page_text page) form
