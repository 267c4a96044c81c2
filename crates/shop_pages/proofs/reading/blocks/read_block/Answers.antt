use Rattle.std.proofs.Common.{refl}
use Rattle.shop_pages.specs.Parts.{ReadsBlock}
use Rattle.shop_pages.proofs.Letters.{letter_found, some_letter, only_heading, only_para, only_link, only_picture, only_table, only_form}
use Rattle.shop_pages.proofs.reading.blocks.read_block.Goals as goal

pub returns-then-letter-eq104-clause-read : goal.returns-then-letter-eq104-clause-read
returns-then-letter-eq104-clause-read c = λ block rest is.
    only_heading (λ b. ReadsBlock b rest c.args.bytes.now c.read_heading.result) (λ text. c.read_heading.ensures.read text rest) block
    (letter_found block rest _ _ _ is c.letter_at-letter.ensures c.if-letter-eq104.true) is

pub returns-then-letter-eq112-clause-read : goal.returns-then-letter-eq112-clause-read
returns-then-letter-eq112-clause-read c = λ block rest is.
    only_para (λ b. ReadsBlock b rest c.args.bytes.now c.read_para.result) (λ text. c.read_para.ensures.read text rest) block
    (letter_found block rest _ _ _ is c.letter_at-letter.ensures c.if-letter-eq112.true) is

pub returns-then-letter-eq97-clause-read : goal.returns-then-letter-eq97-clause-read
returns-then-letter-eq97-clause-read c = λ block rest is.
    only_link (λ b. ReadsBlock b rest c.args.bytes.now c.read_link.result) (λ target label. c.read_link.ensures.read target label rest) block
    (letter_found block rest _ _ _ is c.letter_at-letter.ensures c.if-letter-eq97.true) is

pub returns-then-letter-eq105-clause-read : goal.returns-then-letter-eq105-clause-read
returns-then-letter-eq105-clause-read c = λ block rest is.
    only_picture (λ b. ReadsBlock b rest c.args.bytes.now c.read_picture.result) (λ target label. c.read_picture.ensures.read target label rest) block
    (letter_found block rest _ _ _ is c.letter_at-letter.ensures c.if-letter-eq105.true) is

pub returns-then-letter-eq116-clause-read : goal.returns-then-letter-eq116-clause-read
returns-then-letter-eq116-clause-read c = λ block rest is.
    only_table (λ b. ReadsBlock b rest c.args.bytes.now c.read_table.result) (λ rows. c.read_table.ensures.read rows rest) block
    (letter_found block rest _ _ _ is c.letter_at-letter.ensures c.if-letter-eq116.true) is

pub returns-then-letter-eq102-clause-read : goal.returns-then-letter-eq102-clause-read
returns-then-letter-eq102-clause-read c = λ block rest is.
    only_form (λ b. ReadsBlock b rest c.args.bytes.now c.read_form.result) (λ target fields. c.read_form.ensures.read target fields rest) block
    (letter_found block rest _ _ _ is c.letter_at-letter.ensures c.if-letter-eq102.true) is

pub returns-clause-read : goal.returns-clause-read
returns-clause-read c = λ block rest is.
    absurd (some_letter block _ (letter_found block rest _ _ _ is c.letter_at-letter.ensures refl) c.if-letter-eq104.false c.if-letter-eq112.false c.if-letter-eq97.false c.if-letter-eq105.false c.if-letter-eq116.false c.if-letter-eq102.false)
