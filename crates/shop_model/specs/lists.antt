pub mod Rankings
pub mod Catalogues
pub mod Related
