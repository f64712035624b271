pub mod SeenExpression
