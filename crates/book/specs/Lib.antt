pub mod BookLayout
